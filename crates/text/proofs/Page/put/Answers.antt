-- The bytes copied are written where the text went on.
use mathlib.Core.Path.{refl}
use native.Mathlib.Omega.{arith}
use Rattle.text.proofs.Laws.{puts_written}
use Rattle.text.proofs.Page.put.Goals as goal

pub returns : goal.returns
returns c =
    puts_written c.args.text.now (omega arith) refl c.copy.ensures refl
