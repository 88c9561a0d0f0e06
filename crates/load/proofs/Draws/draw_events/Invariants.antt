-- After k events the slots have the first k of the load, and the number drawn last is number 3k.
use Prim.Native.Nat.{◌*◌}
use mathlib.Core.Path.{◌≡◌}
use Rattle.machine.specs.Bytes.{splice}
use Rattle.machine.specs.Tape.{list_bytes}
use Rattle.machine.specs.Load.{drawn, load_events}
use Rattle.load.proofs.Draws.draw_events.Given as goal

abbrev pub invariant-loop-k : goal.invariant-loop-k
invariant-loop-k l =
    record {
      same : l.self.n ≡ l.initial.self.n;
      last : l.self.last ≡ drawn l.initial.self.last (3 * l.k);
      slots : l.slots ≡ splice l.initial.slots 0 (list_bytes (load_events l.initial.self.n l.initial.self.last l.k));
    }
