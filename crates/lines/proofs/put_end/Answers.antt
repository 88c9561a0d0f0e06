-- One word by what is told.
use Rattle.machine.specs.Text.{text, line}
use Rattle.machine.specs.Report.{last_line}
use Rattle.lines.proofs.put_end.Goals.{then-stopped, else-stopped}
use Rattle.lines.proofs.put_end.Goals as goal

pub returns : goal.returns
unfolding last_line line text
returns c = elim c.if-stopped.branch [
  | then-stopped w ↦ rw w.if-stopped.true (rw w.field-is at c.field.ensures.text)
  | else-stopped w ↦ rw w.if-stopped.false (rw w.field-is at c.field.ensures.text)
]
