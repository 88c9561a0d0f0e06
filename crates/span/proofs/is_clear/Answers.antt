-- The bytes or-ed are none exactly when all are zero.
use Rattle.span.proofs.Laws.{ored_none}
use Rattle.span.proofs.is_clear.Goals as goal

pub returns : goal.returns
returns c = rw c.ored.ensures (ored_none c.args.bytes.now 0)
