-- Four fields, one after the other.
use Rattle.machine.specs.Text.{text}
use Rattle.text.proofs.Laws.{puts_then}
use Rattle.lines.proofs.Lines.{refusal_fields}
use Rattle.lines.proofs.put_refusal.Goals as goal

pub returns : goal.returns
unfolding text
returns c =
    rw (refusal_fields c.args.refusal, ← c.number.ensures, ← c.place.ensures)
    (puts_then c.field.ensures.text
    (puts_then c.field-2.ensures.text (puts_then c.field-3.ensures.text c.field-4.ensures.text)))
