-- What report has filled lies within the output.
use mathlib.Core.Path.{sym}
use native.Mathlib.Omega.{arith}
use lib.Seq.{length-take-le}
use Rattle.report.proofs.Call.{done_within}
use Rattle.ringrun.proofs.main.Goals as goal

pub slice_bounds-output-end : goal.slice_bounds-output-end
slice_bounds-output-end c =
    let r = c.report-answer in
    omega (arith, done_within _ _ r.result r.ensures.answer c.in-Ok.is, r.auto.output)

pub slice_bounds-write_all-end : goal.slice_bounds-write_all-end
slice_bounds-write_all-end c =
    let r = c.report-answer in
    sym (length-take-le _ r.new.output
    (omega (arith, done_within _ _ r.result r.ensures.answer c.in-Ok.is, r.auto.output)))
