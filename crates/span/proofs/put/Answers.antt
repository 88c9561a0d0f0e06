-- The part is the piece afterwards, and the rest is as it was.
use native.Mathlib.Omega.{arith}
use Rattle.span.proofs.Laws.{put_splice}
use Rattle.span.proofs.put.Goals as goal

pub returns : goal.returns
returns c = put_splice c.args.at _ c.args.bytes.now c.copy_from_slice.ensures.after (omega arith)
