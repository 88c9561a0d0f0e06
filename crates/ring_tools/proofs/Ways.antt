-- Each way through the calls of this host is that way through the rule: with a short result slice the tests
-- alone, else the call's own answer, told. The answers of lower functions are variables here, each with the rule's
-- value that it is known to be.
use Prim.Native.Nat.{ℕ, ◌<◌}
use mathlib.Core.Path.{◌≡◌, ap, ◌∙◌}
use mathlib.Core.List.{List}
use lib.ListN.{length}
use Rattle.machine.specs.Verdict.{Verdict}
use Rattle.machine.specs.Tape.{list_of, tape_of}
use Rattle.machine.specs.Refusals.{number_of, or_else, codes, size_verdict, list_verdict, tape_verdict}
use Rattle.machine.specs.Refusals.{output_verdict, seed_verdict, count_verdict, front_verdict}
use Rattle.machine.specs.Answers.{answer, fresh_verdict, fresh_answer, fresh_image}
use Rattle.machine.specs.Answers.{write_verdict, write_answer, write_output, read_verdict, read_answer, read_output}
use Rattle.machine.specs.Load.{load_tape, load_answer, load_output}
use Rattle.machine.specs.Survey.{survey_answer}
use Rattle.machine.proofs.Laws.Refusals.{else_else}
use Rattle.load.proofs.Ways.{in_turn}
use Rattle.numbers.specs.Verdicts.{refusal_of}
use Rattle.numbers.proofs.Verdicts.{output_unmeasured}
use Rattle.result_slice.proofs.Told.{Tells, short_told}
use Rattle.result_slice.proofs.Told.{Leaves, short_left}

-- ---- a short result slice

module _ (result : List ℕ) (short : length result < 80) (n : ℕ) where
  pub fresh_short : (home : ℕ) (image : List ℕ) {m : ℕ} {v : Verdict} → v ≡ fresh_verdict n home image
      → m ≡ number_of (refusal_of v)
      → Leaves (fresh_answer n home image) result image (fresh_image n home image) m image result
  unfolding fresh_answer
  fresh_short home image is number =
      short_left result short image (fresh_image n home image) (fresh_verdict n home image) _
      (number ∙ ap (λ v. number_of (refusal_of v)) is)

  -- a call that fills an output: the verdict of its inputs is enough
  filled_short : (first second : Verdict) (needed : ℕ) (output done values : List ℕ) {m : ℕ} {v : Verdict}
      → v ≡ or_else first second
      → m ≡ number_of (refusal_of v)
      → Leaves (answer (or_else first (or_else second (output_verdict needed output))) values) result output done m
      output result
  filled_short first second needed output done values is number =
      short_left result short output done (or_else first (or_else second (output_verdict needed output))) values
      (number ∙ ap (λ v. number_of (refusal_of v)) is ∙ ap number_of (output_unmeasured first second needed output))

  pub write_short : (list output : List ℕ) {m : ℕ} {v : Verdict}
      → v ≡ or_else (size_verdict n) (list_verdict codes n list)
      → m ≡ number_of (refusal_of v)
      → Leaves (write_answer n list output) result output (write_output n list output) m output result
  unfolding write_answer write_verdict
  write_short list output =
      filled_short (size_verdict n) (list_verdict codes n list) (length (tape_of list)) output
      (write_output n list output) _

  pub read_short : (tape output : List ℕ) {m : ℕ} {v : Verdict}
      → v ≡ or_else (size_verdict n) (tape_verdict codes n tape)
      → m ≡ number_of (refusal_of v)
      → Leaves (read_answer n tape output) result output (read_output n tape output) m output result
  unfolding read_answer read_verdict
  read_short tape output =
      filled_short (size_verdict n) (tape_verdict codes n tape) (length (list_of tape)) output
      (read_output n tape output) _

  pub load_short : (seed count : ℕ) (output : List ℕ) {m : ℕ} {v : Verdict}
      → v ≡ or_else (size_verdict n) (or_else (seed_verdict seed) (count_verdict count))
      → m ≡ number_of (refusal_of v)
      → Leaves (load_answer n seed count output) result output (load_output n seed count output) m output result
  unfolding load_answer
  load_short seed count output =
      let numbers = or_else (seed_verdict seed) (count_verdict count) in
      let needed = length (load_tape n seed count) in
      rw (in_turn n seed count output, ← else_else (size_verdict n) numbers (output_verdict needed output))
      (filled_short (size_verdict n) numbers needed output (load_output n seed count output) _)

-- ---- a survey, which is lent nothing to write but the result slice

module _ (image result : List ℕ) where
  pub survey_short : length result < 80 → {n : ℕ} {v : Verdict} → v ≡ front_verdict image → n ≡ number_of (refusal_of v)
      → Tells (survey_answer image) result n result
  unfolding survey_answer
  survey_short short is number =
      short_told result short (front_verdict image) _ (number ∙ ap (λ v. number_of (refusal_of v)) is)
