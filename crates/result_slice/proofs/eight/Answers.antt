-- The bytes of the library's are those of the rule, of any number that is the word.
use mathlib.Core.Path.{ap, ◌∙◌}
use native.Mathlib.Omega.{arith}
use Rattle.machine.specs.Bytes.{bytes}
use Rattle.little_endian.proofs.Laws.{written}
use Rattle.result_slice.proofs.eight.Goals as goal

pub returns : goal.returns
returns c = c.to_le_bytes.ensures ∙ written 8 _ ∙ ap (λ w. bytes 8 w) (omega arith)
