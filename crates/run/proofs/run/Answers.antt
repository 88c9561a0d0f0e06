-- Refused as its inputs are, or by the ledger's room; else the events are performed as the rule says.
use mathlib.Core.Path.{sym, ◌∙◌}
use Rattle.run.proofs.Ways.{run_refused, ledger_refused, run_done}
use Rattle.run.proofs.run.Goals as goal

pub returns-in_default : goal.returns-in_default
returns-in_default c = let done = run_refused c.args.image.now c.args.tape.now c.args.ledger.now
    (sym c.inputs_verdict-verdict.ensures ∙ c.unwrap_err.ensures) in
    record { answer = done.0; buffer = done.1.0; records = done.1.1 }

pub returns-then-not-has_room : goal.returns-then-not-has_room
returns-then-not-has_room c = let done = ledger_refused c.args.image.now c.args.tape.now c.args.ledger.now
    (sym c.inputs_verdict-verdict.ensures ∙ c.in-Ok.is) c.event_count-events.ensures c.has_room.ensures
    c.if-not-has_room.true in record { answer = done.0; buffer = done.1.0; records = done.1.1 }

pub returns : goal.returns
returns c = let done = run_done c.args.image.now c.args.tape.now c.args.ledger.now
    (sym c.inputs_verdict-verdict.ensures ∙ c.in-Ok.is) c.event_count-events.ensures c.has_room.ensures
    c.if-not-has_room.false c.replay.ensures.answer c.replay.ensures.buffer
    c.replay.ensures.records in record { answer = done.0; buffer = done.1.0; records = done.1.1 }
