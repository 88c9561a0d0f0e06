-- The four stores and the events that were there are the rule's block, and the check is taken of the others.
use Rattle.pack.proofs.Packed.{block_sealed}
use Rattle.pack.proofs.seal_block.Goals as goal

pub returns : goal.returns
returns c =
    let whole = rw c.unwrap.ensures at c.as_array.ensures.cases in
    block_sealed c.args.block.now c.args.number c.args.used c.requires.2 c.requires.0 c.write_at.ensures
    c.write_at-2.ensures c.clear.ensures whole.same c.check_of-check.ensures c.write_at-3.ensures
