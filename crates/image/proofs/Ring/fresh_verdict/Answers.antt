-- Each test that refuses is the table's row, and past all of them the rule refuses nothing.
use mathlib.Core.Path.{sym, ◌∙◌}
use Rattle.machine.proofs.Laws.Refusals.{size_fits_lem, fresh_short}
use Rattle.image.proofs.Ring.fresh_verdict.Goals as goal

pub returns-then-image-n : goal.returns-then-image-n
returns-then-image-n c =
    let size = size_fits_lem c.args.n (sym c.fits.ensures ∙ c.if-not-fits.false) in
    sym (fresh_short c.args.n c.args.home c.args.image.now size c.if-n-home.false c.if-image-n.true)
