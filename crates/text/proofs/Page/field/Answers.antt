-- What spells the value, and then one byte.
use native.Mathlib.Omega.{arith}
use Rattle.text.proofs.Laws.{puts_then}
use Rattle.text.proofs.Page.field.Goals as goal

pub returns : goal.returns
returns g c = record {
  text = puts_then c.put_on.ensures c.put.ensures;
  end = omega (arith, c.put_on.ensures.piece.ends, c.put.ensures.piece.ends);
}
