-- What is left to test, of the tape and of the block in hand, decides for all, since what came before is fine.
use Rattle.std.specs.Prelude.{Ok}
use Prim.Native.Nat.{◌-◌, ◌/◌}
use mathlib.Core.Path.{◌≡◌}
use lib.ListN.{length}
use Rattle.machine.specs.Refusals.{first, block_verdict, used_verdict, tape_verdict}
use Rattle.tape_test.proofs.Blocks.{slot_test}
use Rattle.tape_test.proofs.Slots.{HeadFine}
use Rattle.tape_test.proofs.tape_verdict.Given as goal

abbrev pub invariant-loop-j : goal.invariant-loop-j
invariant-loop-j l =
    (l.verdict ≡ Ok tt) × HeadFine l.tape l.b l.block l.count
    × (first (slot_test l.codes l.n l.tape l.b) l.j (l.count - l.j) ≡ used_verdict l.codes l.n l.tape l.b)

abbrev pub invariant-blocks-2 : goal.invariant-blocks-2
invariant-blocks-2 l =
    (l.verdict ≡ Ok tt)
    × (first (block_verdict l.codes l.n l.tape) l.b (length l.tape / 512 - l.b) ≡ tape_verdict l.codes l.n l.tape)
