-- The rule's two tests of a length, made at once, so the two ways out are the rule's two.
use Rattle.tape_test.proofs.Ways.{length_fits_lem, length_unfit}
use Rattle.tape_test.proofs.length_verdict.Goals as goal

pub returns-then-fits : goal.returns-then-fits
returns-then-fits c =
    length_fits_lem c.args.unit c.args.most c.args.bytes.now c.if-fits.true

pub returns-else-fits : goal.returns-else-fits
returns-else-fits c =
    length_unfit c.args.unit c.args.most c.args.bytes.now c.if-fits.false
