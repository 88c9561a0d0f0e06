-- The second word is written where the first one ends.
use native.Mathlib.Omega.{arith}
use Rattle.machine.proofs.Laws.Bytes.{length_bytes}
use Rattle.little_endian.proofs.Laws.{stores_both}
use Rattle.record.proofs.header.Header.put.Goals as goal

pub returns : goal.returns
returns c =
    stores_both c.args.image.now 0 8 _ _ (omega arith) (rw length_bytes) c.write_at.ensures
    c.write_at-2.ensures
