-- With a short result slice the verdict alone decides; else the step's answer is told.
use Rattle.result_slice.proofs.Told.{told_left}
use Rattle.ring_host.proofs.Ways.{step_short}
use Rattle.ring_host.proofs.ring_step.ring_step.Goals as goal

pub returns-in_default : goal.returns-in_default
returns-in_default c =
    let done = step_short c.args.image.now c.args.event.now c.args.res.now c.in_default.ensures.cases
    c.step_verdict.ensures c.short.ensures in
    record { number = done.0; buffer = done.1.0; told = done.1.1 }

pub returns : goal.returns
returns c =
    let done = told_left c.args.res.now c.in-Some.ensures.cases c.args.image.now c.step.ensures.buffer
    c.step.ensures.answer c.reply.ensures.number c.reply.ensures.told c.reply.ensures.room in
    record { number = done.0; buffer = done.1.0; told = done.1.1 }
