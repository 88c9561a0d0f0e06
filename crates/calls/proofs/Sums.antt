-- A run's totals are its steps' sums. An event of an accepted tape has process, code and message as an accepted event
-- has them, so a step with its eight bytes is done and does what the rules do with that event; the next step then finds
-- the state that the rules have (machine/proofs/Runs).
use Rattle.std.specs.Prelude.{Ok}
use Prim.Native.Nat.{ℕ, zero, suc, ◌+◌, ◌*◌, ◌/◌, ◌<◌}
use mathlib.Core.Path.{◌≡◌, refl, sym, ap, ap₂, subst, ◌∙◌}
use mathlib.Core.Bool.{Bool, true, false, ◌||◌}
use mathlib.Core.List.{List, [], ◌∷◌, ◌++◌}
use lib.ListN.{length}
use lib.Dec.{eqb}
use borrow.Author.Tests.{lt-ltb, eqb-false}
use Rattle.machine.specs.declared.Refusal.TheVariants as refusal
use Rattle.machine.specs.Bytes.{Bytes, bytes, all_zero, zeros}
use Rattle.machine.specs.Lists.{tabulate, all}
use Rattle.machine.specs.Image.{State, size_in, state_in, image_with}
use Rattle.machine.specs.Events.{Event, outcome}
use Rattle.machine.specs.Run.{after}
use Rattle.machine.specs.Tape.{event_in, events_in, event_bytes, list_of}
use Rattle.machine.specs.Traffic.{traffic, traffic_from, traffic_values, together}
use Rattle.machine.specs.Refusals.{unless, first, codes, image_verdict, event_fits, event_verdict}
use Rattle.machine.specs.Refusals.{length_verdict, most_events, list_verdict, tape_verdict}
use Rattle.machine.specs.Answers.{Answer, answer, outcome_values, step_verdict, step_answer, step_image}
use Rattle.machine.specs.Answers.{run_events, run_verdict, run_answer, run_image}
use Rattle.machine.proofs.Laws.Lists.{and_first, and_second}
use Rattle.machine.proofs.Laws.Refusals.{unless_fine, first_fine, second_fine, fits_process, fits_code, fits_silent}
use Rattle.machine.proofs.Soundness.Kept.{image_after}
use Rattle.machine.proofs.Runs.{fitting, fitting_message, event_continues, events_left, none_left}
use Rattle.machine.proofs.Tapes.{bytes_read}
use Rattle.tape.proofs.Round.{read_accepted}
use Rattle.tape.proofs.Events.{events_fit}
use Rattle.calls.specs.Calls.{image_after_all}
use Rattle.calls.specs.Sums.{step_traffic, traffic_by_all, AllDone, steps_of, SumOfSteps, TotalsAreSums}
use Rattle.calls.specs.Sums.AllDone.{none, one}

-- ---- an event's own bytes

-- they are accepted in a ring of n
abbrev taken : ℕ → Event → Bool
taken n v = event_fits codes n (event_bytes v) 0

-- as the event itself says
event_taken : (n : ℕ) (v : Event) → v.process < n → v.code < codes → ((v.code ≡ 0 → ⊥) → v.message ≡ 0)
    → taken n v ≡ true
unfolding event_fits zeros all_zero bytes
event_taken n v below known silent =
    rw (lt-ltb v.process n below, lt-ltb v.code codes known) (go (eqb v.code 0) refl)
  where
    go : (t : Bool) → eqb v.code 0 ≡ t → t || all_zero (bytes 4 v.message) ≡ true
    go true q = refl
    go false q = rw (silent (eqb-false v.code 0 q))

-- ---- one step

module _ (image : List ℕ) (v : Event) (fine : image_verdict image ≡ Ok tt) (fits : fitting (size_in image) v ≡ true)
    (here : taken (size_in image) v ≡ true) where
  own : event_in (event_bytes v) 0 ≡ v
  own = bytes_read v (fitting_message (size_in image) v fits)

  accepted : step_verdict image (event_bytes v) ≡ Ok tt
  unfolding step_verdict event_verdict bytes
  accepted = rw (fine, here)

  answered : step_answer image (event_bytes v)
      ≡ answer (Ok tt) (outcome_values (outcome (state_in image) v) ++ traffic_values (traffic (state_in image) v))
  unfolding step_answer
  answered = rw (accepted, own)

  written : step_image image (event_bytes v) ≡ image_after image v
  unfolding step_image
  written = rw (accepted, own)

-- ---- a list of steps

steps_do : (vs : List Event) (image : List ℕ) → image_verdict image ≡ Ok tt → Bytes image
    → all (fitting (size_in image)) vs ≡ true → all (taken (size_in image)) vs ≡ true
    → SumOfSteps image vs (traffic_from (state_in image) vs) (image_with image (after (state_in image) vs))
unfolding all traffic_from traffic_by_all image_after_all
steps_do [] image fine small fit good =
    record { done = none; sums = refl; leaves = none_left image fine small }
steps_do (v ∷ vs) image fine small fit good =
    let n = size_in image in
    let fits = and_first (fitting n v) _ fit in
    let here = and_first (taken n v) _ good in
    let next = event_continues image v fine small fits in
    let others : all (fitting (size_in (image_after image v))) vs ≡ true =
    rw next.size (and_second (fitting n v) _ fit) in
    let other_bytes : all (taken (size_in (image_after image v))) vs ≡ true =
    rw next.size (and_second (taken n v) _ good) in
    let rest = steps_do vs (image_after image v) next.fine next.small others other_bytes in
    let answers = answered image v fine fits here in
    let left = sym (written image v fine fits here) in
    record {
      done =
          one (ap (λ (a : Answer). a.number) answers)
          (subst (λ (s : List ℕ). AllDone s (steps_of vs)) left rest.done);
      sums =
          ap₂ together (ap step_traffic (sym answers))
          (ap (λ (st : State). traffic_from st vs) (sym next.state)
          ∙ rest.sums
          ∙ ap (λ (s : List ℕ). traffic_by_all s (steps_of vs)) left);
      leaves =
          sym (events_left image v fine small fits vs)
          ∙ rest.leaves
          ∙ ap (λ (s : List ℕ). image_after_all s (steps_of vs)) left;
    }

-- ---- a tape

module _ (n : ℕ) (list : List ℕ) where
  -- k events of a list from event i on, none of which is refused
  row_taken : (i k : ℕ) → first (λ j. unless (event_fits codes n list (8 * j)) (refusal.Event j)) i k ≡ Ok tt
      → all (taken n) (tabulate (λ j. event_in list (8 * j)) i k) ≡ true
  unfolding first tabulate all event_in
  row_taken i zero e = refl
  row_taken i (suc k) e =
      let at = 8 * i in
      let fits = unless_fine (event_fits codes n list at) (refusal.Event i) (first_fine _ _ e) in
      let here = event_taken n (event_in list at) (fits_process codes n list at fits) (fits_code codes n list at fits)
      (fits_silent codes n list at fits) in
      rw (here, row_taken (i + 1) k (second_fine (unless (event_fits codes n list at) (refusal.Event i)) _ e))

-- the list that a reader gives is accepted too
events_taken : (n : ℕ) (tape : List ℕ) → tape_verdict codes n tape ≡ Ok tt → all (taken n) (run_events tape) ≡ true
unfolding run_events events_in list_verdict
events_taken n tape fine =
    row_taken n (list_of tape) 0 (length (list_of tape) / 8)
    (second_fine (length_verdict 8 most_events (list_of tape)) _ (read_accepted codes n tape fine))

pub totals_are_sums : TotalsAreSums
unfolding run_verdict run_answer run_image
totals_are_sums image tape ledger small bytes fine =
    let n = size_in image in
    let whole = first_fine (image_verdict image) _ fine in
    let good = first_fine (tape_verdict codes n tape) _ (second_fine (image_verdict image) _ fine) in
    rw fine
    (steps_do (run_events tape) image whole small (events_fit codes n tape good bytes) (events_taken n tape good))
