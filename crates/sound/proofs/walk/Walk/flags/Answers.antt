-- The flags stand below the marks, from bit 9 on.
use mathlib.Core.Path.{refl}
use Rattle.sound.proofs.walk.Walk.flags.Goals as goal

pub returns : goal.returns
returns c = refl
