-- What is left to test decides for all, since what came before is fine.
use Prim.Native.Nat.{◌-◌, ◌/◌}
use mathlib.Core.Path.{◌≡◌}
use lib.ListN.{length}
use Rattle.machine.specs.Refusals.{first, list_verdict}
use Rattle.tape_test.proofs.Blocks.{event_test}
use Rattle.tape_test.proofs.list_verdict.Given as goal

abbrev pub invariant-loop-k : goal.invariant-loop-k
invariant-loop-k l =
    first (event_test l.codes l.n l.list) l.k (length l.list / 8 - l.k) ≡ list_verdict l.codes l.n l.list
