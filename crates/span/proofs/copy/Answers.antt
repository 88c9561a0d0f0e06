-- After i turns the first i bytes of the piece are written, and the others are as they were.
use Prim.Native.Nat.{◌+◌}
use mathlib.Core.Path.{refl, ap, ◌∙◌}
use native.Mathlib.Omega.{arith}
use lib.ListN.{get_or, set, length-set}
use Rattle.machine.proofs.Laws.Splices.{splice_none}
use Rattle.span.proofs.Laws.{copy_more}
use Rattle.span.proofs.copy.Goals as goal

pub loop-i-init : goal.loop-i-init
loop-i-init c = record { long = refl; copied = splice_none c.args.bytes.now c.args.at }

pub loop-i-preserved : goal.loop-i-preserved
loop-i-preserved c =
    let byte = get_or c.args.piece.now c.loop-i.i 0 in
    let next =
    copy_more c.args.bytes.now c.args.at c.loop-i.i (omega arith) c.args.piece.now 0 byte (omega arith)
    (ap (λ k. get_or c.args.piece.now k 0) (omega arith)) in
    record {
      long = simp length-set c.loop-i.invariant.long;
      copied = ap (λ t. set t (c.args.at + c.loop-i.i) byte) c.loop-i.invariant.copied ∙ next;
    }
