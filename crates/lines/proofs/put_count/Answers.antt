-- The name, and then the count.
use Rattle.text.proofs.Laws.{puts_then}
use Rattle.lines.proofs.put_count.Goals as goal

pub returns-clause-count : goal.returns-clause-count
returns-clause-count c = puts_then c.field.ensures.text c.field-2.ensures.text
