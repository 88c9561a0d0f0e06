-- Each way through the step call is that way through the rule. The answers of lower functions are variables here, each
-- with the rule's value that it is known to be.
use Rattle.std.specs.Prelude.{Err, Ok}
use Prim.Native.Nat.{ℕ, ◌+◌, ◌%◌, ◌^◌, ◌≤◌, ◌<◌}
use mathlib.Core.Path.{◌≡◌, refl, sym, ap, ◌∙◌}
use mathlib.Core.List.{List, [], ◌∷◌, ◌++◌, append-nil}
use native.Mathlib.Omega.{arith}
use lib.ListN.{length, get_or, take, replicate, length-take}
use lib.Seq.{take-length, take_all}
use lib.Dec.{eqb}
use Rattle.machine.specs.declared.Outcome.{Outcome}
use Rattle.machine.specs.declared.Outcome.TheVariants.{Idle, Moved, Fill, Take, Sent, Got}
use Rattle.machine.specs.declared.Counts.{Counts}
use Rattle.machine.specs.declared.Traffic.{Traffic}
use Rattle.machine.specs.declared.Refusal.{Refusal}
use Rattle.machine.specs.Image.{size_in, state_in}
use Rattle.machine.specs.Lists.{tabulate}
use Rattle.machine.specs.Bytes.{Bytes, bit, number, bytes, splice}
use Rattle.machine.specs.Events.{outcome}
use Rattle.machine.specs.Tape.{event_in, events_in}
use Rattle.machine.specs.Run.{outcome_number, outcome_message, ledger_record, ledger_entry, ledger_from, counts_from}
use Rattle.machine.specs.Run.{after}
use Rattle.machine.specs.Run.{recorded, no_counts, counted}
use Rattle.machine.specs.Traffic.{traffic, traffic_values}
use Rattle.machine.specs.Refusals.{codes, image_verdict, event_verdict}
use Rattle.machine.specs.Answers.{answer, outcome_values, step_verdict, step_answer, step_image}
use Rattle.machine.proofs.Laws.Bits.{bit_le}
use Rattle.machine.proofs.Laws.Bytes.{little_endian_bytes_4, number_lt}
use Rattle.machine.proofs.Image.Stored.{length_state}
use Rattle.machine.proofs.Image.Rewrite.{read_in_range}
use Rattle.machine.proofs.Soundness.Kept.{outcome_small}
use Rattle.machine.proofs.Tallies.{length_entry}
use Rattle.machine.proofs.LinkTraffic.{traffic_one}
use Rattle.machine.proofs.Laws.Refusals.{first_fine, second_fine, event_below, accepted_long, accepted_fits}
use Rattle.turns.specs.Turns.{traffic_in, Turning, Tallied, Ran}
use Rattle.step.specs.Step.{outcome_read}

-- a list begins with all of it
pub begins_whole : (l : List ℕ) → l ≡ take (length l) l
begins_whole l = sym (take-length l)

-- the outcome of an event, from how often it was idle and from its record in twelve zeros
outcome_read_lem : (process : ℕ) (o : Outcome) → outcome_message o < 2 ^ 32
    → let m = splice (replicate 12 0) 0 (ledger_entry 0 process o) in
    outcome_read (bit (eqb (outcome_number o) 0)) (get_or m 5 0) (number m 8 4) ≡ o
unfolding splice ledger_entry ledger_record bytes number
outcome_read_lem process Idle small = refl
outcome_read_lem process Moved small = refl
outcome_read_lem process (Fill m) small = ap Fill (little_endian_bytes_4 m small)
outcome_read_lem process (Take m) small = ap Take (little_endian_bytes_4 m small)
outcome_read_lem process Sent small = refl
outcome_read_lem process Got small = refl

module _ (s event : List ℕ) where
  pub step_refused : {r : Refusal} → step_verdict s event ≡ Err r
      → (answer (Err r) [] ≡ step_answer s event) × (s ≡ step_image s event)
  unfolding step_answer step_image
  step_refused e = (rw e, rw e)

  module _ (fine : step_verdict s event ≡ Ok tt) where
    accepted : event_verdict codes (size_in s) event ≡ Ok tt
    unfolding step_verdict
    accepted = second_fine (image_verdict s) _ fine

    eight : length event ≡ 8
    eight = accepted_long (size_in s) event accepted

    -- the one event, or none: that none was performed would show in what the call returns
    pub may_turn : {events : List ℕ} → events ≡ take (length events) event → Turning s events 0 0
    unfolding step_verdict
    may_turn {events} begins =
        let most : length events ≤ 8 = omega (arith, eight, ap length begins, length-take (length events) event) in
        record {
          fine = first_fine (image_verdict s) _ fine;
          few = omega arith;
          numbers = omega arith;
          fits =
              λ k h.
              let first : k ≡ 0 = omega arith in
              let all : length event ≤ length events = omega (arith, eight) in
              let same : events ≡ event = begins ∙ take_all (length events) event all in
              rw (same, first) (accepted_fits (size_in s) event accepted);
          place = omega arith;
        }

    one_event : events_in event ≡ event_in event 0 ∷ []
    unfolding events_in tabulate
    one_event = rw eight

    -- the one event's outcome is what is read off the word and the record, and its traffic the word's
    pub step_done : Bytes s → Bytes event → {word : ℕ} {u m : List ℕ} {o : Outcome} {t : Traffic}
        → Tallied (state_in s) (events_in event) word
        → Ran 0 0 s (replicate 12 0) (events_in event) u m
        → o ≡ outcome_read (word % 128) (get_or m 5 0) (number m 8 4) → t ≡ traffic_in word
        → (answer (Ok tt) (outcome_values o ++ traffic_values t) ≡ step_answer s event) × (u ≡ step_image s event)
    unfolding step_answer step_image after counted counts_from ledger_from event_in
    step_done small small_event {word} {u} {m} {o} {t} tally run read told =
        let tallied = rw one_event at tally in
        let ran = rw one_event at run in
        let st = state_in s in
        let v = event_in event 0 in
        let said = outcome st v in
        let idle : word % 128 ≡ bit (eqb (outcome_number said) 0) =
        omega (arith, ap (λ (c : Counts). c.idle) (tallied.counts no_counts)) in
        let entry = ledger_entry 0 v.process said in
        let records : m ≡ splice (replicate 12 0) 0 entry =
        let room : 0 + length (entry ++ []) ≤ 12 =
        omega (arith, ap length (append-nil entry), length_entry 0 v.process said, bit_le (recorded said)) in
        rw (append-nil entry) at (ran.records room) in
        let below = event_below (size_in s) event accepted in
        let is =
        outcome_read_lem v.process said
        (outcome_small st v (omega (arith, length_state s)) (number_lt event 4 small_event) (read_in_range s small)) in
        let same_outcome : o ≡ said = read ∙ rw (idle, records) is in
        let same_traffic : t ≡ traffic st v = told ∙ tallied.traffic ∙ traffic_one st v in
        (rw (same_outcome, same_traffic, fine), ran.image ∙ rw fine)
