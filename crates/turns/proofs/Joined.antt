-- Two lists of events, one after the other: what they come to is what the second comes to after the first.
use Rattle.std.specs.Prelude.{Ok}
use Prim.Native.Nat.{ℕ, ◌+◌, ◌*◌, ◌<◌}
use mathlib.Core.Path.{◌≡◌, refl, sym, ap, ◌∙◌}
use mathlib.Core.Bool.{true}
use mathlib.Core.List.{List, [], ◌∷◌, ◌++◌, append_assoc}
use native.Mathlib.Omega.{arith}
use lib.ListN.{length, get_or, length-append}
use Rattle.machine.specs.declared.Counts.{Counts}
use Rattle.machine.specs.Bytes.{Bytes}
use Rattle.machine.specs.Image.{State, size_in, state_in}
use Rattle.machine.specs.Events.{Event, outcome, apply}
use Rattle.machine.specs.Run.{ledger_entry, ledger_from, no_counts, counted, counts_from, after}
use Rattle.machine.specs.Refusals.{image_verdict}
use Rattle.machine.proofs.Laws.Bytes.{splice_next}
use Rattle.machine.proofs.Laws.Lists.{all_each}
use Rattle.machine.proofs.Soundness.Kept.{image_over}
use Rattle.machine.proofs.Runs.{fitting, length_after, after_joined, none_left, events_continue}
use Rattle.machine.proofs.Tallies.{length_ledger}
use Rattle.machine.proofs.Laws.Splices.{splice_none}
use Rattle.turns.specs.Turns.{Ran}

pub counts_joined : (vs ws : List Event) (st : State) (c : Counts)
    → counts_from c st (vs ++ ws) ≡ counts_from (counts_from c st vs) (after st vs) ws
unfolding after counts_from
counts_joined [] ws st c = refl
counts_joined (v ∷ vs) ws st c = counts_joined vs ws (apply st v) (counted v.code (outcome st v) c)

ledger_joined : (vs ws : List Event) (st : State) (k : ℕ)
    → ledger_from k st (vs ++ ws) ≡ ledger_from k st vs ++ ledger_from (k + length vs) (after st vs) ws
unfolding after ledger_from
ledger_joined [] ws st k = ap (λ (n : ℕ). ledger_from n st ws) (omega arith)
ledger_joined (v ∷ vs) ws st k =
    let entry = ledger_entry k v.process (outcome st v) in
    let number : k + 1 + length vs ≡ k + length (v ∷ vs) = omega arith in
    ap (λ (l : List ℕ). entry ++ l)
    (ledger_joined vs ws (apply st v) (k + 1)
    ∙ ap (λ (n : ℕ). ledger_from (k + 1) (apply st v) vs ++ ledger_from n (after (apply st v) vs) ws) number)
    ∙ sym (append_assoc entry (ledger_from (k + 1) (apply st v) vs) _)

-- an event past the end of a list
abbrev pub nobody : Event
nobody = record { process = 0; code = 0; message = 0 }

-- the image that events leave is accepted again, of the same ring, and has the state after them
pub record Stands (s₀ : List ℕ) (vs : List Event) (s : List ℕ) : Type 0 where
  pub fine : image_verdict s ≡ Ok tt
  pub size : size_in s ≡ size_in s₀
  pub long : length s ≡ length s₀
  pub state : state_in s ≡ after (state_in s₀) vs

pub ran_stands : {s₀ : List ℕ} {vs : List Event} {first from : ℕ} {l₀ s l : List ℕ} → image_verdict s₀ ≡ Ok tt
    → Bytes s₀ → Ran first from s₀ l₀ vs s l
    → ((i : ℕ) → i < length vs → fitting (size_in s₀) (get_or vs i nobody) ≡ true)
    → Stands s₀ vs s
ran_stands {s₀} {vs} fine small ran fits =
    let after_all = events_continue vs s₀ fine small (all_each (fitting (size_in s₀)) vs nobody fits) in
    rw ran.image (search after_all)

-- no events leave image and ledger as they are
pub ran_none : {first from : ℕ} {s l : List ℕ} → image_verdict s ≡ Ok tt → Bytes s → Ran first from s l [] s l
unfolding ledger_from
ran_none {first} {from} {s} {l} fine small =
    record { image = sym (none_left s fine small); records = λ _. splice_none l from }

-- and where the second go on from the first
pub ran_joined : {first from k place : ℕ} {s₀ l₀ s l t m : List ℕ} (vs ws : List Event)
    → state_in s ≡ after (state_in s₀) vs → length l ≡ length l₀ → k ≡ first + length vs
    → place ≡ from + 12 * (counts_from no_counts (state_in s₀) vs).records → Ran first from s₀ l₀ vs s l
    → Ran k place s l ws t m
    → Ran first from s₀ l₀ (vs ++ ws) t m
ran_joined {first} {from} {k} {place} {s₀} {l₀} {s} vs ws state long number behind g more =
    let st = after (state_in s₀) vs in
    let a = ledger_from first (state_in s₀) vs in
    let b = ledger_from k (state_in s) ws in
    let both : ledger_from first (state_in s₀) (vs ++ ws) ≡ a ++ b =
    ledger_joined vs ws (state_in s₀) first ∙ rw (number, state) in
    record {
      image =
          more.image
          ∙ rw (state, g.image, after_joined vs ws (state_in s₀)) (image_over s₀ st (after st ws) (length_after ws st));
      records =
          rw both
          (λ enough.
          let long_both = length-append a b in
          let there : place ≡ from + length a = omega (arith, length_ledger vs first (state_in s₀)) in
          more.records (omega arith) ∙ rw (there, g.records (omega arith)) (splice_next l₀ from a b (omega arith)));
    }
