-- A mark that stands adds no bit and no count; a new one is counted, and its count has room.
use native.Mathlib.Omega.{arith}
use Rattle.machine.specs.Fields.{empty}
use Rattle.reaction.proofs.Marks.{mark_made}
use Rattle.reaction.proofs.put.mark.Goals as goal

pub with_more-requires : goal.with_more-requires
with_more-requires c = omega (arith, c.args.step.ready.room empty)

pub invariant_of-result : goal.invariant_of-result
invariant_of-result c =
    let made =
    mark_made c.args.step c.is_full.ensures c.only.ensures c.marks.ensures c.not.ensures c.bitand-new.ensures
    c.with.ensures c.with_more.ensures.0 c.with_more.ensures.1 in
    record { tidy = made.fits.own; header_tidy = made.fits.header }

pub returns : goal.returns
returns c =
    mark_made c.args.step c.is_full.ensures c.only.ensures c.marks.ensures c.not.ensures c.bitand-new.ensures
    c.with.ensures c.with_more.ensures.0 c.with_more.ensures.1
