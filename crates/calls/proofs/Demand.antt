-- The third demand over lists of calls: the fresh ring has the invariant with nothing shown, every call keeps it with
-- what it shows besides (Calls), and what is promised is read off it and off the image's bytes (Flags).
--
-- A refused call changes and shows nothing, and so does stopped; a step that is done is one event; a run that is done
-- is the list of its tape's events, each at a process of the ring and with a message of 32 bits (tape/proofs/Events).
-- So the image after it is accepted and stands for the rules' own state (machine/proofs/Runs), and the invariant is
-- kept from event to event. What is shown is what the rules count (Shown): a run's counts add to those before, since an
-- event adds to each count by itself (machine/proofs/Tallies), and its messages are read from the ledger's bytes
-- (Ledger).
use Rattle.std.specs.Prelude.{Ok}
use Prim.Native.Nat.{ℕ, suc, ◌≤◌, ◌<◌}
use mathlib.Core.Path.{◌≡◌, sym, ap, subst, ◌∙◌}
use mathlib.Core.Bool.{true, false}
use mathlib.Core.List.{List, [], ◌∷◌}
use native.Mathlib.Omega.{arith}
use lib.ListN.{length}
use lib.Dec.{lit<}
use Rattle.machine.specs.Bytes.{Bytes, bit}
use Rattle.machine.specs.Ring.{least, most, image_length}
use Rattle.machine.specs.Image.{state_in, image_with}
use Rattle.machine.specs.Fields.{Status, for}
use Rattle.machine.specs.Fresh.{fresh_envelope, fresh_state}
use Rattle.machine.specs.Stopped.{stopped}
use Rattle.machine.specs.Balance.{Totals}
use Rattle.machine.specs.Refusals.{image_verdict}
use Rattle.machine.specs.Answers.{Answer, answer, fresh_verdict, fresh_image, stopped_answer}
use Rattle.machine.proofs.Laws.Bits.{bit_on}
use Rattle.machine.proofs.Soundness.Octets.{written_bytes}
use Rattle.machine.proofs.Laws.Refusals.{fresh_whole}
use Rattle.machine.proofs.Image.Fresh.{fresh_fits, length_fresh, fresh_accepted, fresh_written, fresh_size}
use Rattle.machine.proofs.Image.Fresh.{fresh_state_lem}
use Rattle.machine.proofs.Soundness.Facts.{state_facts}
use Rattle.machine.proofs.Stopped.{stopped_means}
use Rattle.machine.proofs.Balance.Start.{fresh_invariant}
use Rattle.machine.proofs.Balance.Theorem.{balanced}
use Rattle.calls.specs.Calls.{Call, image_after, image_after_all, nothing, value, shown, plus, shown_by_all}
use Rattle.calls.specs.Demand.{flags_set, SaysStopped, Promised, GivenBytes, ThirdDemand}
use Rattle.calls.proofs.Flags.{flags_are_places, own_message_read}
use Rattle.calls.proofs.Shown.{plus_nothing, nothing_plus, plus_assoc}
use Rattle.calls.proofs.Calls.{Reached, call_kept}

-- ---- the fresh ring

-- no process is marked, for either status
none_marked : (s : Status) → for fresh_envelope.marked s < 256
none_marked true = lit< tt
none_marked false = lit< tt

module _ (n home : ℕ) (two : least ≤ n) (few : n ≤ most) (below : home < n) (buffer : List ℕ) (small : Bytes buffer)
    (room : image_length n ≤ length buffer) where
  -- the fresh ring call isn't refused
  accepted : fresh_verdict n home buffer ≡ Ok tt
  accepted = fresh_whole n home buffer (record { least = two; most = few }) below room

  pub fresh_reached : Reached n (fresh_image n home buffer) nothing
  unfolding fresh_state
  fresh_reached =
      let st = fresh_state n home in
      let long = length_fresh n home in
      let bytes : Bytes (image_with buffer st) =
      written_bytes buffer st small (omega arith) none_marked (state_facts st (fresh_fits n home below)).processes in
      record {
        fine = fresh_accepted n home buffer accepted;
        small = subst Bytes (sym (fresh_written n home buffer accepted)) bytes;
        size = fresh_size n home buffer accepted;
        invariant = rw (fresh_state_lem n home buffer accepted) (fresh_invariant n home two few below);
      }

-- ---- a list of calls

calls_kept : (n : ℕ) (calls : List Call) (image : List ℕ) (t : Totals) → GivenBytes calls → Reached n image t
    → Reached n (image_after_all image calls) (plus t (shown_by_all image calls))
unfolding image_after_all shown_by_all
calls_kept n [] image t bytes before = subst (Reached n image) (sym (plus_nothing t)) before
calls_kept n (c ∷ calls) image t bytes before =
    let next = image_after image c in
    subst (Reached n (image_after_all next calls)) (plus_assoc t (shown image c) (shown_by_all next calls))
    (calls_kept n calls next (plus t (shown image c)) (λ k h. bytes (suc k) (omega arith))
    (call_kept before c (bytes 0 (omega arith))))

-- ---- what is promised

module _ (image : List ℕ) (fine : image_verdict image ≡ Ok tt) where
  -- the stopped call is not refused: 1 for yes, 0 for no
  pub told_flag : stopped_answer image ≡ answer (Ok tt) (bit (stopped (state_in image)) ∷ [])
  unfolding stopped_answer
  told_flag = rw fine

  -- a yes means that the ring is stopped
  pub says_stopped : SaysStopped image → stopped (state_in image) ≡ true
  says_stopped says =
      bit_on (stopped (state_in image)) (omega (arith, ap (λ (a : Answer). value a 0) (sym told_flag ∙ says)))

-- by any claim that the ring is stopped, if it means a yes
pub promised : (IsStopped : List ℕ → Type 0) (n : ℕ) (image : List ℕ) (t : Totals) → Reached n image t
    → (IsStopped image → SaysStopped image)
    → Promised IsStopped n image t
promised IsStopped n image t here means =
    let all = balanced (state_in image) t here.invariant in
    record {
      one_place = ap (flags_set image) (sym here.size) ∙ flags_are_places image ∙ all.one_place;
      messages = rw (own_message_read image) all.messages;
      stopped = λ stops. all.stopped (stopped_means (state_in image) (says_stopped image here.fine (means stops)));
    }

-- ---- from the fresh ring

module _ (n home : ℕ) (two : least ≤ n) (few : n ≤ most) (below : home < n) (buffer : List ℕ) (small : Bytes buffer)
    (room : image_length n ≤ length buffer) (calls : List Call) (bytes : GivenBytes calls) where
  -- the image after the list: it is accepted, and byte 0 is still n
  abbrev last : List ℕ
  last = image_after_all (fresh_image n home buffer) calls

  pub all_reached : Reached n last (shown_by_all (fresh_image n home buffer) calls)
  all_reached =
      let first = fresh_image n home buffer in
      subst (Reached n last) (nothing_plus (shown_by_all first calls))
      (calls_kept n calls first nothing bytes (fresh_reached n home two few below buffer small room))

pub demand_three : ThirdDemand
demand_three n home two few below buffer small room calls bytes =
    promised SaysStopped n _ _ (all_reached n home two few below buffer small room calls bytes) (λ says. says)
