-- With a short result slice the verdict of what is given decides alone; else the bytes filled, or the refusal, are
-- told.
use Rattle.result_slice.proofs.Told.{told_left}
use Rattle.ring_tools.proofs.Ways.{load_short}
use Rattle.ring_tools.proofs.ring_load.ring_load.Goals as goal

pub returns-in_default : goal.returns-in_default
returns-in_default c =
    let done = load_short c.args.res.now c.in_default.ensures.cases c.args.n c.args.seed c.args.count c.args.output.now
    c.load_verdict.ensures c.short.ensures in
    record { number = done.0; buffer = done.1.0; told = done.1.1 }

pub returns : goal.returns
returns c =
    let done = told_left c.args.res.now c.in-Some.ensures.cases c.args.output.now c.load.ensures.buffer
    c.load.ensures.answer c.reply.ensures.number c.reply.ensures.told c.reply.ensures.room in
    record { number = done.0; buffer = done.1.0; told = done.1.1 }
