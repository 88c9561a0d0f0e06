-- The events are laid into the slots, and the block is sealed round them.
use native.Mathlib.Omega.{arith}
use Rattle.pack.proofs.Packed.{block_filled}
use Rattle.pack.proofs.pack_block.Goals as goal

pub returns : goal.returns
returns c =
    block_filled c.args.block.now c.args.events.now c.args.number (omega arith) c.copy.ensures c.seal_block.ensures
