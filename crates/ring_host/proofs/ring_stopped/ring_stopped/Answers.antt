-- With a short result slice the verdict alone decides; else yes, no or the refusal is told.
use Rattle.result_slice.proofs.Told.{told_first}
use Rattle.ring_host.proofs.Ways.{stopped_short}
use Rattle.ring_host.proofs.ring_stopped.ring_stopped.Goals as goal

pub returns-in_default : goal.returns-in_default
returns-in_default c =
    let done = stopped_short c.args.image.now c.args.res.now c.in_default.ensures.cases c.image_verdict.ensures
    c.short.ensures in
    record { number = done.0; told = done.1 }

pub returns : goal.returns
returns c =
    let done = told_first c.args.res.now c.in-Some.ensures.cases c.stopped.ensures c.reply.ensures.number
    c.reply.ensures.told c.reply.ensures.room in
    record { number = done.0; told = done.1 }
