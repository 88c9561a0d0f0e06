-- The records' lines, the counts' and the last line, one after the other.
use native.Mathlib.Omega.{arith}
use Rattle.text.proofs.Laws.{puts_is, puts_then}
use Rattle.lines.proofs.Lines.{lines_of_first}
use Rattle.lines.proofs.put_ran.Goals as goal

pub returns : goal.returns
returns c =
    puts_then
    (puts_is (lines_of_first c.args.ledger.now c.args.counts.records (omega arith)) c.put_records.ensures.lines)
    (puts_then c.put_counts.ensures.line c.put_end.ensures)
