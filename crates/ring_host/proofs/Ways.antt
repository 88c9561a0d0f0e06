-- Each way through the three calls of the suite's host is that way through the rule: with a short result slice the
-- tests alone, else the call's own answer, told. The answers of lower functions are variables here, each with the
-- rule's value that it is known to be.
use Prim.Native.Nat.{ℕ, ◌<◌}
use mathlib.Core.Path.{◌≡◌, ap, ◌∙◌}
use mathlib.Core.List.{List}
use lib.ListN.{length}
use Rattle.machine.specs.Verdict.{Verdict}
use Rattle.machine.specs.Image.{size_in}
use Rattle.machine.specs.Refusals.{number_of, or_else, codes, image_verdict, tape_verdict}
use Rattle.machine.specs.Answers.{step_verdict, step_answer, step_image}
use Rattle.machine.specs.Answers.{run_records, run_verdict, run_answer, run_image, run_ledger, stopped_answer}
use Rattle.machine.specs.Host.{returned, result_after, lent_with}
use Rattle.numbers.specs.Verdicts.{refusal_of}
use Rattle.numbers.proofs.Verdicts.{output_unmeasured}
use Rattle.result_slice.proofs.Told.{Tells, lent_untouched, short_told}
use Rattle.result_slice.proofs.Told.{Leaves, short_left}

-- ---- step

module _ (image event result : List ℕ) where
  -- what the contract says of the number, the image and the result slice
  abbrev Stepped : ℕ → List ℕ → List ℕ → Type 0
  Stepped n t u = Leaves (step_answer image event) result image (step_image image event) n t u

  pub step_short : length result < 80 → {n : ℕ} {v : Verdict} → v ≡ step_verdict image event
      → n ≡ number_of (refusal_of v)
      → Stepped n image result
  unfolding step_answer
  step_short short is number =
      short_left result short image (step_image image event) (step_verdict image event) _
      (number ∙ ap (λ v. number_of (refusal_of v)) is)

-- ---- run

module _ (image tape ledger result : List ℕ) where
  -- what the contract says of the number, the image, the ledger and the result slice
  abbrev Ran : ℕ → List ℕ → List ℕ → List ℕ → Type 0
  Ran n t l u =
      (n ≡ returned (run_answer image tape ledger) result)
      × ((t ≡ lent_with result image (run_image image tape ledger))
      × ((l ≡ lent_with result ledger (run_ledger image tape ledger))
      × (u ≡ result_after (run_answer image tape ledger) result)))

  pub run_short : length result < 80 → {n : ℕ} {v : Verdict}
      → v ≡ or_else (image_verdict image) (tape_verdict codes (size_in image) tape)
      → n ≡ number_of (refusal_of v)
      → Ran n image ledger result
  unfolding run_answer run_verdict
  run_short short is number =
      let tests = tape_verdict codes (size_in image) tape in
      let unmeasured = output_unmeasured (image_verdict image) tests (length (run_records image tape)) ledger in
      let tells =
      short_told result short (run_verdict image tape ledger) _
      (number ∙ ap (λ v. number_of (refusal_of v)) is ∙ ap number_of unmeasured) in (
        tells.0,
        (
          lent_untouched result short image (run_image image tape ledger),
          (lent_untouched result short ledger (run_ledger image tape ledger), tells.1),
        ),
      )

-- ---- stopped

module _ (image result : List ℕ) where
  pub stopped_short : length result < 80 → {n : ℕ} {v : Verdict} → v ≡ image_verdict image
      → n ≡ number_of (refusal_of v)
      → Tells (stopped_answer image) result n result
  unfolding stopped_answer
  stopped_short short is number =
      short_told result short (image_verdict image) _ (number ∙ ap (λ v. number_of (refusal_of v)) is)
