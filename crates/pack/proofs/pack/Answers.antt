-- After b blocks the start of the tape is the first b blocks of the list's tape.
use native.Mathlib.Omega.{arith}
use Rattle.machine.specs.Tape.{block_for}
use Rattle.pack.proofs.Packed.{block_made}
use Rattle.pack.proofs.Rows.{joined_none, packed_more}
use Rattle.pack.proofs.pack.Goals as goal

pub loop-b-init : goal.loop-b-init
loop-b-init c = joined_none c.args.tape.now (block_for c.args.list.now)

pub loop-b-preserved : goal.loop-b-preserved
loop-b-preserved c =
    packed_more c.args.list.now c.args.tape.now c.loop-b.b c.loop-b.invariant
    (block_made c.args.list.now c.loop-b.b _ (omega arith) c.pack_block.ensures c.loop-b.tape _ (omega arith))
