-- The tests come in document 01's order, and each way out is one way through the rule.
use mathlib.Core.Path.{sym}
use native.Mathlib.Omega.{arith}
use Rattle.machine.proofs.Laws.Refusals.{SizeFits, front_too_few, front_short}
use Rattle.machine.specs.Image.{size_in}
use Rattle.sound.proofs.front_verdict.Goals as goal

pub returns-then-too_few : goal.returns-then-too_few
returns-then-too_few c =
    sym (front_too_few c.args.image.now (omega arith) (omega arith))

pub returns-then-image-n : goal.returns-then-image-n
returns-then-image-n c =
    let size : SizeFits (size_in c.args.image.now) = record { least = omega arith; most = omega arith } in
    sym (front_short c.args.image.now (omega arith) size (omega arith))
