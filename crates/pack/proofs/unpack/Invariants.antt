-- After j blocks the start of the list is the events of the first j blocks, and `at` stands behind them.
use Prim.Native.Nat.{◌*◌, min}
use mathlib.Core.Path.{◌≡◌}
use Rattle.machine.specs.Bytes.{splice}
use Rattle.machine.specs.Lists.{join, tabulate}
use Rattle.pack.specs.Pack.{taken_from}
use Rattle.pack.proofs.unpack.Given as goal

abbrev pub invariant-loop-block : goal.invariant-loop-block
invariant-loop-block l = record {
  at : l.at ≡ min (504 * l.block-index) l.total;
  taken : l.list ≡ splice l.initial.list 0 (join (tabulate (taken_from l.tape l.total) 0 l.block-index));
}
