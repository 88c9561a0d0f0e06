-- The number drawn last stays below the modulus.
use Rattle.std.proofs.Common.{◌≤◌}
use Rattle.loads.proofs.main.Given as goal

abbrev pub invariant-loop : goal.invariant-loop
invariant-loop l = l.last ≤ 2147483646
