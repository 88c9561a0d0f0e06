-- With a short result slice the inputs' verdict alone decides; else the run's answer is told.
use native.Mathlib.Omega.{arith}
use Rattle.result_slice.proofs.Told.{lent_as_left, told_left}
use Rattle.ring_host.proofs.Ways.{run_short}
use Rattle.ring_host.proofs.ring_run.ring_run.Goals as goal

pub returns-in_default : goal.returns-in_default
returns-in_default c =
    let done = run_short c.args.image.now c.args.tape.now c.args.ledger.now c.args.res.now
    (omega (arith, c.in_default.ensures.cases)) c.inputs_verdict.ensures c.short.ensures in
    record { number = done.0; buffer = done.1.0; records = done.1.1.0; told = done.1.1.1 }

pub returns : goal.returns
returns c =
    let done = told_left c.args.res.now c.in-Some.ensures.cases c.args.image.now c.run.ensures.buffer
    c.run.ensures.answer c.reply.ensures.number c.reply.ensures.told c.reply.ensures.room in
    let records = lent_as_left c.args.res.now c.in-Some.ensures.cases.enough c.args.ledger.now c.run.ensures.records in
    record { number = done.0; buffer = done.1.0; records = records; told = done.1.1 }
