-- The loop's invariant: the lines of the records passed are on the page, of at most 31 bytes each.
use Prim.Native.Nat.{◌+◌, ◌*◌, ◌≤◌}
use mathlib.Core.Path.{◌≡◌}
use lib.ListN.{length, drop}
use Rattle.std.specs.Slice.Iter.{chunks_exact_rest, chunks_exact_size}
use Rattle.machine.specs.Report.{record_lines}
use Rattle.text.specs.Puts.{Puts}
use Rattle.lines.proofs.put_records.Given as goal

abbrev pub invariant-loop-entry : goal.invariant-loop-entry
invariant-loop-entry l = record {
  size : chunks_exact_size l.entry-iterator ≡ 12;
  rest : chunks_exact_rest l.entry-iterator ≡ drop (12 * length l.yielded) l.ledger;
  lines : Puts l.initial.page (record_lines l.ledger (length l.yielded)) l.page;
  short : l.page.end ≤ l.initial.page.end + 31 * length l.yielded;
}
