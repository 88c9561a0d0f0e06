-- The text is written on a page of its own, which has room for every text, and copied if it fits.
use mathlib.Core.Path.{◌≡◌, refl}
use native.Mathlib.Omega.{arith}
use lib.ListN.{take}
use Rattle.report.proofs.Call.{output_refused, report_done}
use Rattle.report.proofs.report.Goals as goal

pub returns-then-output-end-clause-answer : goal.returns-then-output-end-clause-answer
returns-then-output-end-clause-answer c =
    (output_refused c.args.input.now c.args.output.now c.new-page.ensures.end c.whole_text.ensures (omega arith)).0

pub returns-then-output-end-clause-buffer : goal.returns-then-output-end-clause-buffer
returns-then-output-end-clause-buffer c =
    (output_refused c.args.input.now c.args.output.now c.new-page.ensures.end c.whole_text.ensures (omega arith)).1

pub returns-clause-answer : goal.returns-clause-answer
returns-clause-answer c =
    (report_done c.args.input.now c.args.output.now c.new-page.ensures.end c.whole_text.ensures (omega arith) refl).0

pub returns-clause-buffer : goal.returns-clause-buffer
returns-clause-buffer c =
    let page = c.whole_text.new.page in
    let left : c.copy_from_slice.new.self ≡ take page.end page.bytes.now = grind arith in
    (report_done c.args.input.now c.args.output.now c.new-page.ensures.end c.whole_text.ensures (omega arith) left).1
