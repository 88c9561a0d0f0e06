-- After b blocks the start of the tape is the first b blocks of the load's, and where one more follows they were full:
-- the number drawn last is the third of event 63b - 1.
use Prim.Native.Nat.{◌*◌, ◌<◌}
use mathlib.Core.Path.{◌≡◌}
use Rattle.machine.specs.Bytes.{splice}
use Rattle.machine.specs.Lists.{join, tabulate}
use Rattle.machine.specs.Tape.{list_bytes, block_for}
use Rattle.machine.specs.Load.{drawn, load_events}
use Rattle.load.proofs.Draws.draw_blocks.Given as goal

abbrev pub invariant-loop-b : goal.invariant-loop-b
invariant-loop-b l =
    record {
      same : l.draws.n ≡ l.fn.self.n;
      blocks : l.tape
          ≡ splice l.initial.tape 0
          (join (tabulate (block_for (list_bytes (load_events l.fn.self.n l.fn.self.last l.count))) 0 l.b));
      last : l.b < l.blocks → l.draws.last ≡ drawn l.fn.self.last (3 * (63 * l.b));
    }
