-- Two parts of the word.
use mathlib.Core.Path.{refl}
use Rattle.turns.proofs.traffic_in.Goals as goal

pub returns : goal.returns
returns c = refl
