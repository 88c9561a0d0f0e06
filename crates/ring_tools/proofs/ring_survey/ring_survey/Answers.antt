-- With a short result slice what comes before the walk decides alone; else what is found, or the refusal, is told.
use Rattle.result_slice.proofs.Told.{told_first}
use Rattle.ring_tools.proofs.Ways.{survey_short}
use Rattle.ring_tools.proofs.ring_survey.ring_survey.Goals as goal

pub returns-in_default : goal.returns-in_default
returns-in_default c =
    let done = survey_short c.args.image.now c.args.res.now c.in_default.ensures.cases c.front_verdict.ensures
    c.short.ensures in
    record { number = done.0; told = done.1 }

pub returns : goal.returns
returns c =
    let done = told_first c.args.res.now c.in-Some.ensures.cases c.survey.ensures c.reply.ensures.number
    c.reply.ensures.told c.reply.ensures.room in
    record { number = done.0; told = done.1 }
