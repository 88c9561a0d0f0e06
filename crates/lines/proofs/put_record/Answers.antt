-- Four fields, one after the other.
use Rattle.text.proofs.Laws.{puts_then}
use Rattle.lines.proofs.Lines.{record_fields}
use Rattle.lines.proofs.put_record.Goals as goal

pub returns-clause-line : goal.returns-clause-line
returns-clause-line c =
    rw (
      record_fields c.args.entry.now,
      ← c.read_at.ensures,
      ← c.read_at-2.ensures,
      ← c.from-event.ensures,
      ← c.from-process.ensures,
      ← c.word.ensures.word,
      ← c.from-message.ensures,
    )
    (puts_then c.field.ensures.text
    (puts_then c.field-2.ensures.text (puts_then c.field-3.ensures.text c.field-4.ensures.text)))
