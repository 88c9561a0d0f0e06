-- The mark goes, and the marker off; a mark that stood was counted, so its count is above 0.
use Rattle.reaction.proofs.Marks.{clear_can, clear_made}
use Rattle.reaction.proofs.put.clear.Goals as goal

pub with_fewer-requires : goal.with_fewer-requires
with_fewer-requires c =
    clear_can c.args.step c.args.full c.only-one.ensures c.marks.ensures c.bitand.ensures

pub invariant_of-result : goal.invariant_of-result
invariant_of-result c =
    let made =
    clear_made c.args.step c.args.full c.only-one.ensures c.marks.ensures c.bitand.ensures c.without.ensures
    c.with_fewer.ensures.0 c.with_fewer.ensures.1 c.without_markers.ensures.0 c.without_markers.ensures.1 in
    record { tidy = made.fits.own; header_tidy = made.fits.header }

pub returns : goal.returns
returns c =
    clear_made c.args.step c.args.full c.only-one.ensures c.marks.ensures c.bitand.ensures c.without.ensures
    c.with_fewer.ensures.0 c.with_fewer.ensures.1 c.without_markers.ensures.0 c.without_markers.ensures.1
