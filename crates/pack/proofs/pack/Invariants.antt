-- After b blocks the start of the tape is the first b blocks of the list's tape.
use mathlib.Core.Path.{◌≡◌}
use Rattle.machine.specs.Bytes.{splice}
use Rattle.machine.specs.Lists.{join, tabulate}
use Rattle.machine.specs.Tape.{block_for}
use Rattle.pack.proofs.pack.Given as goal

abbrev pub invariant-loop-b : goal.invariant-loop-b
invariant-loop-b l = l.tape ≡ splice l.initial.tape 0 (join (tabulate (block_for l.list) 0 l.b))
