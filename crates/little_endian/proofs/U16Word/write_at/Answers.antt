-- The bytes of the library's are those of the rule.
use mathlib.Core.Path.{ap, ◌∙◌}
use Rattle.machine.specs.Bytes.{splice}
use Rattle.little_endian.proofs.Laws.{written}
use Rattle.little_endian.proofs.U16Word.write_at.Goals as goal

pub returns : goal.returns
returns c = c.put.ensures ∙ ap (splice c.args.bytes.now c.args.at) (c.to_le_bytes-two.ensures ∙ written 2 c.args.self)
