-- Not eight bytes, eight bytes that fit, eight that don't: each way is the rule's.
use Rattle.event.proofs.Bytes.{ragged_refused, fitting_fine, unfit_refused}
use Rattle.event.proofs.Event.verdict.Goals as goal

pub returns-in_default : goal.returns-in_default
returns-in_default c = ragged_refused c.args.n c.args.bytes.now c.in_default.ensures.cases

pub returns-then-fits : goal.returns-then-fits
returns-then-fits c =
    let whole = c.in-Some.ensures.cases in
    fitting_fine c.args.n c.args.bytes.now whole c.fits.ensures c.if-fits.true

pub returns-else-fits : goal.returns-else-fits
returns-else-fits c =
    let whole = c.in-Some.ensures.cases in
    unfit_refused c.args.n c.args.bytes.now whole c.fits.ensures c.if-fits.false
