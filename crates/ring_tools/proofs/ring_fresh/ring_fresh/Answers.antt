-- With a short result slice the verdict alone decides; else ten words of 0 or the refusal are told.
use Rattle.result_slice.proofs.Told.{told_left}
use Rattle.ring_tools.proofs.Ways.{fresh_short}
use Rattle.ring_tools.proofs.ring_fresh.ring_fresh.Goals as goal

pub returns-in_default : goal.returns-in_default
returns-in_default c =
    let done = fresh_short c.args.res.now c.in_default.ensures.cases c.args.n c.args.home c.args.image.now
    c.fresh_verdict.ensures c.short.ensures in
    record { number = done.0; buffer = done.1.0; told = done.1.1 }

pub returns : goal.returns
returns c =
    let done = told_left c.args.res.now c.in-Some.ensures.cases c.args.image.now c.fresh.ensures.buffer
    c.fresh.ensures.answer c.reply.ensures.number c.reply.ensures.told c.reply.ensures.room in
    record { number = done.0; buffer = done.1.0; told = done.1.1 }
