-- Each field is computed as the definition writes it; what is masked is no greater than its mask, so no sum leaves its
-- word.
use mathlib.Core.Logic.{inl, inr}
use lib.Bits.{bit_and, bit_xor}
use Rattle.sound.specs.Walk.{walked_on}
use Rattle.sound.proofs.Walked.{first_kept}
use Rattle.sound.proofs.walk.Walk.on.Goals as goal
use Rattle.sound.proofs.walk.Walk.on.Goals.{then-left-eq0, else-left-eq0}

pub returns : goal.returns
unfolding walked_on
returns c =
    let first =
    first_kept {first = c.if-left-eq0.first} c.args.self.first c.args.i
    (bit_and c.demand.result (bit_xor c.args.word 263))
    (elim c.if-left-eq0.branch [
      | then-left-eq0 w ↦ inl (w.if-left-eq0.true, w.first-is)
      | else-left-eq0 w ↦ inr (w.if-left-eq0.false, w.first-is)
    ]) in
    rw (first, c.demand.ensures)
