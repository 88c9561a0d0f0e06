-- Ten words in eight bytes each are what is written.
use mathlib.Core.Path.{ap, ◌∙◌}
use Rattle.std.proofs.Common.{rules}
use Rattle.machine.specs.Bytes.{splice}
use Rattle.result_slice.proofs.Words.{words_joined}
use Rattle.result_slice.proofs.tell.Goals as goal

pub returns : goal.returns
returns c =
    c.put.ensures
    ∙ ap (splice c.args.res.now 0)
    (c.as_flattened.ensures.value
    ∙ words_joined _ c.args.words.now c.told-words c.map.ensures.items (λ p w eight q k. search rules))
