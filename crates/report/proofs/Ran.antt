-- A tape of at most 64 blocks, performed from an accepted image: what is refused is the tape alone, since the ledger
-- has room for a record an event; and what is written is the rules' text, since the ledger has the rules' records at
-- its start and the image after the run stands for the rules' own state. That image is accepted (machine/proofs/Runs),
-- so the stopped call isn't refused, and says of it what the rule says.
use Rattle.std.specs.Prelude.{Err, Ok, Result}
use Prim.Native.Nat.{ℕ, ◌+◌, ◌*◌, ◌≤◌}
use mathlib.Core.Path.{◌≡◌, refl, sym, ap, ap₂, ◌∙◌}
use mathlib.Core.Bool.{Bool}
use mathlib.Core.List.{List, [], ◌∷◌, ◌++◌}
use native.Mathlib.Omega.{arith}
use lib.ListN.{length, drop, replicate, length-replicate}
use borrow.Author.Tests.{le-leb}
use Rattle.machine.specs.declared.Counts.{Counts}
use Rattle.machine.specs.declared.Traffic.{Traffic}
use Rattle.machine.specs.declared.Refusal.{Refusal}
use Rattle.machine.specs.Verdict.{Verdict}
use Rattle.machine.specs.Bytes.{Bytes, bit, splice}
use Rattle.machine.specs.Image.{size_in, state_in, image_with}
use Rattle.machine.specs.Stopped as rule
use Rattle.machine.specs.Run.{no_counts, counts_from, count_values, ledger_from, after}
use Rattle.machine.specs.Traffic.{traffic_from, traffic_values}
use Rattle.machine.specs.Refusals.{or_else, codes, image_verdict, tape_verdict, output_verdict}
use Rattle.machine.specs.Answers.{answer, run_events, run_records, run_verdict, run_answer, run_image, run_ledger}
use Rattle.machine.specs.Answers.{in_numbers, stopped_answer}
use Rattle.machine.specs.Report.{record_lines, counts_line, last_line, refusal_line, ran_text, text_by}
use Rattle.machine.proofs.Runs.{events_continue}
use Rattle.lines.proofs.Lines.{lines_same}
use Rattle.tape.proofs.Events.{length_events, events_in_blocks, events_fit}
use Rattle.machine.proofs.Tallies.{records_few, length_records}
use Rattle.machine.proofs.Laws.Splices.{part_front}
use Rattle.numbers.specs.Values.{of_bool}
use Rattle.replay.specs.declared.Played.{Played}
use Rattle.replay.specs.Played.{values_of}
use Rattle.report.proofs.Apart.{refused_line, done_fine, same_counts, same_bit}

-- zeros have room for as many bytes
pub zeros_room : (n : ℕ) → n ≤ length (replicate {A = ℕ} n 0)
zeros_room n = omega (arith, length-replicate {A = ℕ} n 0)

-- the lines of records at the start of a longer ledger
lines_at_start : (records ledger : List ℕ) (k : ℕ) → 12 * k ≤ length records
    → record_lines (splice ledger 0 records) k ≡ record_lines records k
unfolding splice
lines_at_start records ledger k h =
    lines_same (splice ledger 0 records) records k
    (λ j low. part_front records (drop (0 + length records) ledger) (12 * j) 12 (omega arith))

-- ---- the run

module _ (s tape ledger : List ℕ) (fine : image_verdict s ≡ Ok tt) (few : length tape ≤ 32768)
    (room : 48384 ≤ length ledger) where
  abbrev tested : Verdict
  tested = tape_verdict codes (size_in s) tape

  abbrev counts : Counts
  counts = counts_from no_counts (state_in s) (run_events tape)

  abbrev carried : Traffic
  carried = traffic_from (state_in s) (run_events tape)

  -- what the run answers when it is done
  abbrev values : List ℕ
  values = count_values counts ++ traffic_values carried

  -- an accepted tape has at most 4,032 events
  records_most : tested ≡ Ok tt → counts.records ≤ 4032
  records_most accepted =
      omega (
        arith,
        records_few (run_events tape) (state_in s),
        length_events tape,
        events_in_blocks codes (size_in s) tape accepted,
      )

  -- the ledger has room for their records, so the tape's test decides
  tape_decides : run_verdict s tape ledger ≡ tested
  unfolding run_verdict output_verdict
  tape_decides = rw fine (go tested refl)
    where
      go : (v : Verdict) → tested ≡ v → or_else v (output_verdict (length (run_records s tape)) ledger) ≡ v
      go (Err r) e = refl
      go (Ok tt) e = enough (records_most e)
        where
          enough : counts.records ≤ 4032 → output_verdict (length (run_records s tape)) ledger ≡ Ok tt
          enough most =
              rw (le-leb (length (run_records s tape)) (length ledger) (omega (arith, length_records s tape, room)))

  module _ (a : Result Played Refusal) (says : in_numbers values_of a ≡ run_answer s tape ledger) where
    told_as : in_numbers values_of a ≡ answer tested values
    unfolding run_answer
    told_as = says ∙ ap (λ (v : Verdict). answer v values) tape_decides

    -- a refusal is the tape's
    pub run_refused : {r : Refusal} → a ≡ Err r
        → refusal_line r ≡ text_by tested (ran_text (state_in s) (run_events tape))
    run_refused {r} is =
        refused_line tested values (ran_text (state_in s) (run_events tape)) r
        (sym (ap (in_numbers values_of) is) ∙ told_as)

    module _ {p : Played} (is : a ≡ Ok p) where
      told_done : answer (Ok tt) (values_of p) ≡ answer tested values
      told_done = sym (ap (in_numbers values_of) is) ∙ told_as

      accepted : tested ≡ Ok tt
      accepted = done_fine tested values told_done

      same : p.counts ≡ counts
      same = same_counts p.counts counts p.traffic carried (told_done ∙ ap (λ (v : Verdict). answer v values) accepted)

      -- so many lines are written at most
      pub records_few_told : p.counts.records ≤ 4032
      records_few_told = rw same (records_most accepted)

      -- the ledger as the run left it
      entries : {l : List ℕ} → l ≡ run_ledger s tape ledger
          → record_lines l p.counts.records ≡ record_lines (ledger_from 0 (state_in s) (run_events tape)) counts.records
      unfolding run_ledger run_records
      entries left =
          let records = run_records s tape in
          ap₂ record_lines (left ∙ rw (tape_decides ∙ accepted)) (ap (λ (n : Counts). n.records) same)
          ∙ lines_at_start records ledger counts.records (omega (arith, length_records s tape))

      -- the image as the run left it
      module _ (small : Bytes s) (small_tape : Bytes tape) where
        state_after : {t : List ℕ} → t ≡ run_image s tape ledger
            → stopped_answer t ≡ answer (Ok tt) (bit (rule.stopped (after (state_in s) (run_events tape))) ∷ [])
        unfolding run_image stopped_answer
        state_after {t} left =
            let on = events_continue (run_events tape) s fine small
            (events_fit codes (size_in s) tape accepted small_tape) in
            let next = image_with s (after (state_in s) (run_events tape)) in
            let written : t ≡ next = left ∙ rw (tape_decides ∙ accepted) in
            ap stopped_answer written ∙ rw (on.fine, on.state)

        abbrev at_rest : Bool
        at_rest = rule.stopped (after (state_in s) (run_events tape))

        module _ {t : List ℕ} (left : t ≡ run_image s tape ledger) (b : Result Bool Refusal)
            (told : in_numbers of_bool b ≡ stopped_answer t) where
          -- the image is accepted, so the stopped call isn't refused
          pub stopped_refused : {r : Refusal} → b ≡ Err r
              → refusal_line r ≡ text_by tested (ran_text (state_in s) (run_events tape))
          stopped_refused {r} it =
              refused_line (Ok tt) (bit at_rest ∷ []) (text_by tested (ran_text (state_in s) (run_events tape))) r
              (sym (ap (in_numbers of_bool) it) ∙ told ∙ state_after left)

          -- yes and no are the rule's
          pub stopped_says : {said : Bool} → b ≡ Ok said → at_rest ≡ said
          stopped_says {said} it =
              same_bit said at_rest (sym (ap (in_numbers of_bool) it) ∙ told ∙ state_after left)

        -- lines, counts and whether it is stopped are the rules' text
        pub run_done : {l : List ℕ} → l ≡ run_ledger s tape ledger → {yes : Bool} → at_rest ≡ yes
            → record_lines l p.counts.records ++ (counts_line p.counts ++ last_line yes)
            ≡ text_by tested (ran_text (state_in s) (run_events tape))
        unfolding ran_text
        run_done entered ends = rw (accepted, entries entered, same, ends)
