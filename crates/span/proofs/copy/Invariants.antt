-- After i turns the first i bytes of the piece are written, and the others are as they were.
use Prim.Native.Nat.{◌≤◌}
use mathlib.Core.Path.{◌≡◌}
use lib.ListN.{length}
use Rattle.machine.specs.Bytes.{part, splice}
use Rattle.span.proofs.copy.Given as goal

abbrev pub invariant-loop-i : goal.invariant-loop-i
invariant-loop-i l = record {
  long : length l.bytes ≡ length l.initial.bytes;
  copied : l.bytes ≡ splice l.initial.bytes l.at (part l.piece 0 l.i);
}
