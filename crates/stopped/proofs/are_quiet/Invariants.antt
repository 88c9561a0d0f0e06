-- After i turns nothing waits exactly when the rule says so of the first i processes.
use Rattle.stopped.proofs.Words.{none_waits}
use Rattle.stopped.specs.Stopped.{QuietAre}
use Rattle.stopped.proofs.are_quiet.Given as goal

abbrev pub invariant-loop-record : goal.invariant-loop-record
invariant-loop-record l = QuietAre l.image l.record-index (none_waits l.any l.stages)
