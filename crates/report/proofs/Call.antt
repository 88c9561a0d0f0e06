-- The report call: the text on the page is written over the output's start if it fits.
use Rattle.std.specs.Prelude.{Err, Ok, Result}
use Prim.Native.Nat.{ℕ, ◌+◌, ◌≤◌, ◌<◌}
use mathlib.Core.Path.{◌≡◌, sym, ap, ◌∙◌}
use mathlib.Core.List.{List, [], ◌∷◌, ◌++◌}
use native.Mathlib.Nat.{zero-add}
use native.Mathlib.Omega.{arith}
use lib.ListN.{length, take, drop}
use lib.Dec.{leb}
use borrow.Author.Tests.{le-leb, lt-leb, leb-true}
use Rattle.machine.specs.declared.Refusal.{Refusal}
use Rattle.machine.specs.declared.Refusal.TheVariants as refusal
use Rattle.machine.specs.Verdict.{Verdict}
use Rattle.machine.specs.Bytes.{splice}
use Rattle.machine.specs.Refusals.{output_verdict}
use Rattle.machine.specs.Answers.{Answer, answer, in_numbers}
use Rattle.machine.specs.Report.{report_text, report_answer, report_output}
use Rattle.machine.proofs.Laws.Refusals.{unless_fine}
use Rattle.machine.proofs.Laws.Splices.{part_written}
use Rattle.text.specs.declared.Page.{Page}
use Rattle.text.specs.Puts.{Puts}
use Rattle.numbers.specs.Values.{one}
use Rattle.report.proofs.Apart.{value_same, done_fine}

module _ (input output : List ℕ) {start page : Page} (begins : start.end ≡ 0)
    (put : Puts start (report_text input) page) where
  -- what the contract says of an answer and of the output
  abbrev Meets : Answer → List ℕ → Type 0
  Meets a after = (a ≡ report_answer input output) × (after ≡ report_output input output)

  -- where the text ends
  text_ends : page.end ≡ length (report_text input)
  text_ends = omega (arith, begins, put.piece.ends)

  -- what stands before that
  text_read : take page.end page.bytes.now ≡ report_text input
  text_read =
      let text = report_text input in
      let room : 0 + length text ≤ length start.bytes.now = omega (arith, begins, put.piece.within) in
      ap (λ (k : ℕ). take k page.bytes.now) text_ends
      ∙ ap (take (length text)) (put.piece.written ∙ ap (λ (at : ℕ). splice start.bytes.now at text) begins)
      ∙ part_written start.bytes.now 0 text (omega (arith, room))

  pub output_refused : length output < page.end → Meets (answer (Err refusal.Output) []) output
  unfolding report_answer report_output output_verdict
  output_refused short =
      let over = lt-leb (length (report_text input)) (length output) (omega (arith, text_ends)) in
      (rw over, rw over)

  pub report_done : page.end ≤ length output → {copied : List ℕ} → copied ≡ take page.end page.bytes.now
      → Meets (answer (Ok tt) (page.end ∷ [])) (copied ++ drop page.end output)
  unfolding report_answer report_output output_verdict splice
  report_done fits is =
      let under = le-leb (length (report_text input)) (length output) (omega (arith, text_ends)) in
      (rw (under, text_ends), rw (under, zero-add (length (report_text input)), is ∙ text_read, text_ends))

-- what a call that is done has written lies within the output
pub done_within : (input output : List ℕ) (a : Result ℕ Refusal) → in_numbers one a ≡ report_answer input output
    → {end : ℕ}
    → a ≡ Ok end
    → end ≤ length output
unfolding report_answer output_verdict
done_within input output a says {end} is =
    let text = report_text input in
    let tells = sym (ap (in_numbers one) is) ∙ says in
    let verdict = output_verdict (length text) output in
    let fine = done_fine verdict (length text ∷ []) tells in
    let filled = value_same 0 (tells ∙ ap (λ (v : Verdict). answer v (length text ∷ [])) fine) in
    let fits =
    leb-true (length text) (length output) (unless_fine (leb (length text) (length output)) refusal.Output fine) in
    omega arith
