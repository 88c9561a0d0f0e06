-- The mask of stage 8 with a full envelope is this arm's.
use mathlib.Core.Path.{refl}
use Rattle.sound.specs.Demands.{demand_of}
use Rattle.sound.proofs.walk.demand.Goals as goal

pub returns-in-24 : goal.returns-in-24
unfolding demand_of
returns-in-24 c = rw c.in-24.is refl
