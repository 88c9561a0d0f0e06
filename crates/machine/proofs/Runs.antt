-- An accepted image after a list of events is accepted again, with the same N and length, and its state is the rules'
-- own: so it is after one event (Kept), and a state written over another leaves nothing of it.
use Rattle.std.specs.Prelude.{Ok}
use Prim.Native.Nat.{ℕ, ◌^◌, ◌<◌}
use mathlib.Core.Path.{◌≡◌, refl, sym, ap, subst, ◌∙◌}
use mathlib.Core.Bool.{Bool, true, ◌&&◌}
use mathlib.Core.List.{List, [], ◌∷◌, ◌++◌}
use lib.ListN.{length}
use lib.Dec.{ltb}
use borrow.Author.Tests.{ltb-true}
use Rattle.machine.specs.Bytes.{Bytes}
use Rattle.machine.specs.Lists.{all}
use Rattle.machine.specs.Image.{State, size_in, state_in, image_with}
use Rattle.machine.specs.Events.{Event, apply}
use Rattle.machine.specs.Run.{after}
use Rattle.machine.specs.Refusals.{image_verdict}
use Rattle.machine.proofs.Laws.Lists.{and_first, and_second}
use Rattle.machine.proofs.Image.Rewrite.{rewrite_image}
use Rattle.machine.proofs.Laws.Refusals.{image_fine}
use Rattle.machine.proofs.Soundness.Kept.{length_applied, image_after, size_kept, image_over, state_kept}
use Rattle.machine.proofs.Soundness.Kept.{length_kept}
use Rattle.machine.proofs.Soundness.Kept.{bytes_kept, sound_kept}

-- at a process of a ring of n, with a message of 32 bits
abbrev pub fitting : ℕ → Event → Bool
fitting n v = ltb v.process n && ltb v.message (2 ^ 32)

pub fitting_process : (n : ℕ) (v : Event) → fitting n v ≡ true → v.process < n
fitting_process n v h = ltb-true v.process n (and_first (ltb v.process n) (ltb v.message (2 ^ 32)) h)

pub fitting_message : (n : ℕ) (v : Event) → fitting n v ≡ true → v.message < 2 ^ 32
fitting_message n v h =
    ltb-true v.message (2 ^ 32) (and_second (ltb v.process n) (ltb v.message (2 ^ 32)) h)

-- the ring keeps its size
pub length_after : (vs : List Event) (st : State) → length (after st vs).processes ≡ length st.processes
unfolding after
length_after [] st = refl
length_after (v ∷ vs) st = length_after vs (apply st v) ∙ length_applied st v

-- two lists, one after the other
pub after_joined : (vs ws : List Event) (st : State) → after st (vs ++ ws) ≡ after (after st vs) ws
unfolding after
after_joined [] ws st = refl
after_joined (v ∷ vs) ws st = after_joined vs ws (apply st v)

-- an image s with a state written over its own: what the next call finds
pub record Continues (s : List ℕ) (st : State) : Type 0 where
  pub state : state_in (image_with s st) ≡ st
  pub size : size_in (image_with s st) ≡ size_in s
  pub long : length (image_with s st) ≡ length s
  pub small : Bytes (image_with s st)
  pub fine : image_verdict (image_with s st) ≡ Ok tt

-- ---- one event

module _ (s : List ℕ) (v : Event) (fine : image_verdict s ≡ Ok tt) (small : Bytes s)
    (fits : fitting (size_in s) v ≡ true) where
  pub event_continues : Continues s (apply (state_in s) v)
  event_continues =
      let below = fitting_process (size_in s) v fits in
      let message = fitting_message (size_in s) v fits in
      record {
        state = state_kept s v small below message;
        size = size_kept s v;
        long = length_kept s v fine;
        small = bytes_kept s v small fine below;
        fine = sound_kept s v small fine below message;
      }

  -- the events that are left, from the image after this one, leave what they leave with it before them
  pub events_left : (vs : List Event)
      → image_with (image_after s v) (after (state_in (image_after s v)) vs)
      ≡ image_with s (after (state_in s) (v ∷ vs))
  unfolding after
  events_left vs =
      let next = apply (state_in s) v in
      ap (λ (st : State). image_with (image_after s v) (after st vs)) event_continues.state
      ∙ image_over s next (after next vs) (length_after vs next)

-- ---- a list of events

-- none leave the image as it is
pub none_left : (s : List ℕ) → image_verdict s ≡ Ok tt → Bytes s → image_with s (after (state_in s) []) ≡ s
unfolding after
none_left s fine small = let image = image_fine s fine in rewrite_image s image.room small image.fits

pub events_continue : (vs : List Event) (s : List ℕ) → image_verdict s ≡ Ok tt → Bytes s
    → all (fitting (size_in s)) vs ≡ true
    → Continues s (after (state_in s) vs)
unfolding all after
events_continue [] s fine small fit =
    let same = none_left s fine small in
    record {
      state = ap state_in same;
      size = ap size_in same;
      long = ap length same;
      small = subst Bytes (sym same) small;
      fine = ap image_verdict same ∙ fine;
    }
events_continue (v ∷ vs) s fine small fit =
    let here = and_first (fitting (size_in s) v) _ fit in
    let one = event_continues s v fine small here in
    let others : all (fitting (size_in (image_after s v))) vs ≡ true =
    rw one.size (and_second (fitting (size_in s) v) _ fit) in
    let rest = events_continue vs (image_after s v) one.fine one.small others in
    let joined = events_left s v fine small here vs in
    record {
      state = ap state_in (sym joined) ∙ rest.state ∙ ap (λ (st : State). after st vs) one.state;
      size = ap size_in (sym joined) ∙ rest.size ∙ one.size;
      long = ap length (sym joined) ∙ rest.long ∙ one.long;
      small = subst Bytes joined rest.small;
      fine = ap image_verdict (sym joined) ∙ rest.fine;
    }
