-- What every call keeps, refused or not: the image is accepted, of the same size, and the invariant of its state holds
-- with what the calls have shown so far. A refused call changes and shows nothing; a step does what one event does, and
-- a run what its list of events does.
use Rattle.std.specs.Prelude.{Err, Ok}
use Prim.Native.Nat.{ℕ, ◌^◌}
use mathlib.Core.Path.{◌≡◌, refl, sym, subst, ◌∙◌}
use mathlib.Core.Bool.{true}
use mathlib.Core.List.{List, [], ◌∷◌, ◌++◌}
use native.Mathlib.Omega.{arith}
use lib.ListN.{length}
use lib.Dec.{ltb}
use borrow.Author.Tests.{lt-ltb}
use Rattle.machine.specs.declared.Refusal.{Refusal}
use Rattle.machine.specs.Verdict.{Verdict}
use Rattle.machine.specs.Bytes.{Bytes, splice}
use Rattle.machine.specs.Lists.{all}
use Rattle.machine.specs.Image.{State, size_in, state_in, image_with}
use Rattle.machine.specs.Events.{Event, outcome, apply}
use Rattle.machine.specs.Run.{no_counts, counts_from, count_values, after}
use Rattle.machine.specs.Traffic.{traffic, traffic_from, traffic_values}
use Rattle.machine.specs.Balance.{Totals, on_ring}
use Rattle.machine.specs.Tape.{event_in}
use Rattle.machine.specs.Refusals.{or_else, codes, image_verdict, event_verdict, tape_verdict, output_verdict}
use Rattle.machine.specs.Answers.{answer, lent, outcome_values, step_verdict, step_answer, step_image}
use Rattle.machine.specs.Answers.{run_events, run_records, run_verdict, run_answer, run_image, run_ledger}
use Rattle.machine.proofs.Laws.Bytes.{number_lt}
use Rattle.machine.proofs.Laws.Lists.{and_first, and_second}
use Rattle.machine.proofs.Image.Stored.{length_state}
use Rattle.machine.proofs.Image.Rewrite.{read_in_range}
use Rattle.machine.proofs.Laws.Refusals.{number_range, event_below, first_fine}
use Rattle.machine.proofs.Runs.{fitting, Continues, event_continues, events_continue}
use Rattle.machine.proofs.Balance.Clauses.{Invariant}
use Rattle.machine.proofs.Balance.Kept.{counts_of, event_kept, events_kept}
use Rattle.tape.proofs.Events.{events_fit}
use Rattle.calls.specs.Calls.{Call, image_after, nothing, shown, step_shows, run_shows, plus}
use Rattle.calls.specs.Calls.Call.{Step, Run, Stopped}
use Rattle.calls.specs.Demand.{given}
use Rattle.calls.proofs.Shown.{plus_nothing, step_refused, run_refused, step_shows_lem, run_shows_lem}

-- what is known of an image of n processes that calls have reached, which have shown t
pub record Reached (n : ℕ) (image : List ℕ) (t : Totals) : Type 0 where
  pub fine : image_verdict image ≡ Ok tt
  pub small : Bytes image
  pub size : size_in image ≡ n
  pub invariant : Invariant (state_in image) t

-- what holds where a verdict is fine, and where it is a refusal, holds of it
pub by_verdict : (P : Verdict → Type 0) (v : Verdict) → (v ≡ Ok tt → P (Ok tt)) → ((r : Refusal) → P (Err r))
    → P v
by_verdict P (Ok _) accepted refused = accepted refl
by_verdict P (Err r) accepted refused = refused r

-- events that fit a ring are on it
within_ring : (n : ℕ) (vs : List Event) → all (fitting n) vs ≡ true → on_ring n vs ≡ true
unfolding all
within_ring n [] fit = refl
within_ring n (v ∷ vs) fit =
    let here = and_first (fitting n v) (all (fitting n) vs) fit in
    rw (
      and_first (ltb v.process n) (ltb v.message (2 ^ 32)) here,
      within_ring n vs (and_second (fitting n v) (all (fitting n) vs) fit),
    )

-- an accepted event of bytes fits a ring
pub accepted_fitting : (n : ℕ) (event : List ℕ) → Bytes event → event_verdict codes n event ≡ Ok tt
    → fitting n (event_in event 0) ≡ true
unfolding event_in
accepted_fitting n event bytes accepted =
    rw (lt-ltb _ n (event_below n event accepted), lt-ltb _ (2 ^ 32) (number_lt event 4 bytes))

module _ {n : ℕ} {image : List ℕ} {t : Totals} (before : Reached n image t) where
  -- a call that leaves the image and shows nothing
  pub unchanged : Reached n image (plus t nothing)
  unchanged = subst (Reached n image) (sym (plus_nothing t)) before

  -- a call that writes a state over the image's own
  written : (st : State) (u : Totals) → Continues image st → Invariant st u → Reached n (image_with image st) u
  written st u next inv =
      record {
        fine = next.fine;
        small = next.small;
        size = next.size ∙ before.size;
        invariant = rw next.state inv;
      }

  -- ---- a step

  module _ (event : List ℕ) (bytes : Bytes event) where
    -- the event that these bytes are
    abbrev v : Event
    v = event_in event 0

    -- its answer's values
    abbrev step_values : List ℕ
    step_values = outcome_values (outcome (state_in image) v) ++ traffic_values (traffic (state_in image) v)

    -- done, it is one event on the state
    step_done : event_verdict codes (size_in image) event ≡ Ok tt
        → Reached n (image_with image (apply (state_in image) v))
        (plus t (step_shows event (answer (Ok tt) step_values)))
    unfolding event_in
    step_done accepted =
        let st = state_in image in
        let below = event_below (size_in image) event accepted in
        let fits = accepted_fitting (size_in image) event bytes accepted in
        let inv = event_kept st t before.invariant v (omega (arith, length_state image)) in
        written (apply st v) _ (event_continues image v before.fine before.small fits)
        (subst (Invariant (apply st v)) (step_shows_lem event (outcome st v) (traffic st v) t) inv)

    step_kept : Reached n (step_image image event) (plus t (shown image (Step event)))
    unfolding step_image step_answer step_verdict
    step_kept =
        let st = state_in image in
        rw before.fine
        (by_verdict (λ w. Reached n (lent w image (image_with image (apply st v)))
        (plus t (step_shows event (answer w step_values))))
        (event_verdict codes (size_in image) event) step_done
        (λ r.
        subst (λ (u : Totals). Reached n image (plus t u))
        (sym (step_refused event (answer (Err r) step_values) (number_range r).0)) unchanged))

  -- ---- a run

  module _ (tape ledger : List ℕ) (bytes : Bytes tape) where
    -- the events of the tape
    abbrev vs : List Event
    vs = run_events tape

    -- its answer's values
    abbrev run_values : List ℕ
    run_values = count_values (counts_from no_counts (state_in image) vs)
        ++ traffic_values (traffic_from (state_in image) vs)

    -- done, it is the tape's events on the state
    run_done : tape_verdict codes (size_in image) tape ≡ Ok tt
        → Reached n (image_with image (after (state_in image) vs))
        (plus t (run_shows (answer (Ok tt) run_values) (splice ledger 0 (run_records image tape))))
    unfolding run_records
    run_done accepted =
        let st = state_in image in
        let fit = events_fit codes (size_in image) tape accepted bytes in
        let fit_state : all (fitting (length st.processes)) vs ≡ true = rw (length_state image) fit in
        let inv = events_kept vs st (counts_of t) t.filled t.taken before.invariant
        (within_ring (length st.processes) vs fit_state) in
        written (after st vs) _ (events_continue vs image before.fine before.small fit)
        (subst (Invariant (after st vs))
        (run_shows_lem ledger st vs (read_in_range image before.small) fit_state (traffic_from st vs) t) inv)

    run_kept : Reached n (run_image image tape ledger) (plus t (shown image (Run tape ledger)))
    unfolding run_image run_answer run_ledger run_verdict
    run_kept =
        let st = state_in image in
        let records = run_records image tape in
        let test = tape_verdict codes (size_in image) tape in
        let room = output_verdict (length records) ledger in
        rw before.fine
        (by_verdict (λ w. Reached n (lent w image (image_with image (after st vs)))
        (plus t (run_shows (answer w run_values) (lent w ledger (splice ledger 0 records)))))
        (or_else test room) (λ accepted. run_done (first_fine test room accepted))
        (λ r.
        subst (λ (u : Totals). Reached n image (plus t u))
        (sym (run_refused ledger (answer (Err r) run_values) (number_range r).0)) unchanged))

  -- ---- any call

  pub call_kept : (c : Call) → Bytes (given c) → Reached n (image_after image c) (plus t (shown image c))
  call_kept (Step event) bytes = step_kept event bytes
  call_kept (Run tape ledger) bytes = run_kept tape ledger bytes
  call_kept Stopped bytes = unchanged
