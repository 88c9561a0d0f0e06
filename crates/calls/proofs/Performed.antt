-- What calls answer and leave is what the rules make of the events performed: a refused call performs none, answers no
-- traffic and leaves the image; a step that is done performs its event, a run its tape's, and the next call finds the
-- state after them (machine/proofs/Runs).
use Rattle.std.specs.Prelude.{Err, Ok}
use Prim.Native.Nat.{ℕ, suc}
use mathlib.Core.Path.{◌≡◌, refl, sym, ap, ap₂, ◌∙◌}
use mathlib.Core.Bool.{cond}
use mathlib.Core.List.{List, [], ◌∷◌, ◌++◌}
use native.Mathlib.Omega.{arith}
use lib.ListN.{length}
use lib.Dec.{eqb}
use borrow.Author.Tests.{ne_eqb}
use Rattle.machine.specs.declared.Refusal.{Refusal}
use Rattle.machine.specs.declared.Traffic.{Traffic}
use Rattle.machine.specs.Verdict.{Verdict}
use Rattle.machine.specs.Bytes.{Bytes}
use Rattle.machine.specs.Image.{State, size_in, state_in, image_with}
use Rattle.machine.specs.Events.{Event, outcome}
use Rattle.machine.specs.Run.{no_counts, counts_from, count_values, after}
use Rattle.machine.specs.Tape.{event_in}
use Rattle.machine.specs.Traffic.{traffic, no_traffic, together, traffic_from, traffic_values}
use Rattle.machine.specs.Refusals.{number_of, or_else, codes, image_verdict, event_verdict, tape_verdict}
use Rattle.machine.specs.Refusals.{output_verdict}
use Rattle.machine.specs.Answers.{Answer, answer, lent, outcome_values, step_verdict, step_answer, step_image}
use Rattle.machine.specs.Answers.{run_events, run_records, run_verdict, run_answer, run_image, stopped_answer}
use Rattle.machine.proofs.Laws.Refusals.{number_range, first_fine}
use Rattle.machine.proofs.LinkTraffic.{traffic_one, traffic_joined}
use Rattle.machine.proofs.Runs.{Continues, after_joined, event_continues, events_continue}
use Rattle.tape.proofs.Events.{events_fit}
use Rattle.calls.specs.Calls.{Call, answer_of, image_after, image_after_all}
use Rattle.calls.specs.Calls.Call.{Step, Run, Stopped}
use Rattle.calls.specs.Demand.{given}
use Rattle.calls.specs.Sums.{step_traffic, run_traffic, call_traffic, traffic_by_all}
use Rattle.calls.specs.Performed.{performed, performed_by_all, CallsPerform}
use Rattle.calls.proofs.Calls.{by_verdict, accepted_fitting}

-- ---- one call

-- from an image events have led to another, with so much traffic
record Went (image : List ℕ) (vs : List Event) (next : List ℕ) (links : Traffic) : Type 0 where
  fine : image_verdict next ≡ Ok tt
  small : Bytes next
  state : state_in next ≡ after (state_in image) vs
  traffic : links ≡ traffic_from (state_in image) vs

module _ (image : List ℕ) (fine : image_verdict image ≡ Ok tt) (small : Bytes image) where
  -- no event
  stayed : Went image [] image no_traffic
  unfolding after traffic_from
  stayed = record { fine = fine; small = small; state = refl; traffic = refl }

  -- a call by the verdict of its tests, with its events, its values, and what it tells of them
  module _ (vs : List Event) (values : List ℕ) (tells : Answer → Traffic)
      (untold : (r : Refusal) → tells (answer (Err r) values) ≡ no_traffic) where
    -- what is then to be shown
    abbrev Goes : Verdict → Type 0
    Goes w =
        Went image (cond (eqb (answer w values).number 0) vs [])
        (lent w image (image_with image (after (state_in image) vs))) (tells (answer w values))

    goes : (w : Verdict) → (w ≡ Ok tt → Continues image (after (state_in image) vs))
        → tells (answer (Ok tt) values) ≡ traffic_from (state_in image) vs
        → Goes w
    goes w continues told = by_verdict Goes w done refused
      where
        done : w ≡ Ok tt → Goes (Ok tt)
        done accepted =
            let next = continues accepted in
            record { fine = next.fine; small = next.small; state = next.state; traffic = told }

        refused : (r : Refusal) → Goes (Err r)
        refused r = rw (ne_eqb (number_of r) 0 (λ same. omega (arith, (number_range r).0)), untold r) stayed

  call_went : (c : Call) → Bytes (given c)
      → Went image (performed image c) (image_after image c) (call_traffic c (answer_of image c))
  unfolding step_answer step_image step_verdict run_answer run_image run_verdict stopped_answer after
  call_went (Step event) bytes =
      let st = state_in image in
      let v = event_in event 0 in
      rw fine
      (goes (v ∷ []) (outcome_values (outcome st v) ++ traffic_values (traffic st v)) step_traffic (λ r. refl)
      (event_verdict codes (size_in image) event)
      (λ accepted. event_continues image v fine small (accepted_fitting (size_in image) event bytes accepted))
      (sym (traffic_one st v)))
  call_went (Run tape ledger) bytes =
      let st = state_in image in
      let vs = run_events tape in
      let test = tape_verdict codes (size_in image) tape in
      let room = output_verdict (length (run_records image tape)) ledger in
      rw fine
      (goes vs (count_values (counts_from no_counts st vs) ++ traffic_values (traffic_from st vs)) run_traffic
      (λ r. refl)
      (or_else test room)
      (λ accepted. events_continue vs image fine small
      (events_fit codes (size_in image) tape (first_fine test room accepted) bytes))
      refl)
  call_went Stopped bytes = rw fine stayed

-- ---- call after call

pub calls_perform : CallsPerform
unfolding image_after_all traffic_by_all performed_by_all after traffic_from
calls_perform image fine small [] bytes = record { state = refl; traffic = refl }
calls_perform image fine small (c ∷ cs) bytes =
    let st = state_in image in
    let vs = performed image c in
    let ws = performed_by_all (image_after image c) cs in
    let one = call_went image fine small c (bytes 0 (omega arith)) in
    let rest = calls_perform (image_after image c) one.fine one.small cs (λ k h. bytes (suc k) (omega arith)) in
    record {
      state = rest.state ∙ ap (λ (s : State). after s ws) one.state ∙ sym (after_joined vs ws st);
      traffic =
          ap₂ together one.traffic (rest.traffic ∙ ap (λ (s : State). traffic_from s ws) one.state)
          ∙ sym (traffic_joined vs ws st);
    }
