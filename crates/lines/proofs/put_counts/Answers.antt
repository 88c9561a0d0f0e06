-- Seven counts, one after the other.
use Rattle.machine.specs.Text.{text}
use Rattle.text.proofs.Laws.{puts_then}
use Rattle.lines.proofs.Lines.{counts_fields}
use Rattle.lines.proofs.put_counts.Goals as goal

pub returns-clause-line : goal.returns-clause-line
unfolding text
returns-clause-line c =
    rw (counts_fields c.args.counts)
    (puts_then c.put_count.ensures.count
    (puts_then c.put_count-2.ensures.count
    (puts_then c.put_count-3.ensures.count
    (puts_then c.put_count-4.ensures.count
    (puts_then c.put_count-5.ensures.count
    (puts_then c.put_count-6.ensures.count c.put_count-7.ensures.count))))))
