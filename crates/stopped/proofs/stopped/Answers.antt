-- The walk over all processes is the rule's yes or no.
use mathlib.Core.Path.{sym, ◌∙◌}
use Rattle.stopped.proofs.Ways.{stopped_done}
use Rattle.stopped.proofs.stopped.Goals as goal

pub returns : goal.returns
returns c =
    stopped_done c.args.image.now (sym c.image_verdict-verdict.ensures ∙ c.in-Ok.is) c.from.ensures
    c.are_quiet.ensures
