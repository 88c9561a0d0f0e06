-- The image has room for its records, so that they can be walked over; the verdict, the flags and the sets are what the
-- walk gives.
use native.Mathlib.Omega.{arith}
use Rattle.machine.proofs.Laws.Refusals.{front_fine}
use Rattle.sound.proofs.Ways.{findings_are}
use Rattle.sound.proofs.found.Goals as goal

pub returns : goal.returns
returns c =
    let front = front_fine c.args.image.now c.requires in
    findings_are c.args.image.now c.from-n.ensures (omega (arith, c.from-n.ensures, front.size.most))
    c.over-walk.ensures
    c.sound_verdict-verdict.ensures c.flags.ensures
