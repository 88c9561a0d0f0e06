-- Refused as what it is given is, or by the room; else the unpacked events are the tape's list.
use mathlib.Core.Path.{sym, ◌∙◌}
use Rattle.tape.proofs.Reader.{read_refused, read_short, read_done}
use Rattle.tape.proofs.read.Goals as goal

pub returns-in_default : goal.returns-in_default
returns-in_default c =
    let done =
    read_refused c.args.n c.args.tape.now c.args.output.now
    (sym c.read_verdict-verdict.ensures ∙ c.unwrap_err.ensures) in
    record { answer = done.0; buffer = done.1 }

pub returns-then-output-list_length : goal.returns-then-output-list_length
returns-then-output-list_length c =
    let done =
    read_short c.args.n c.args.tape.now c.args.output.now (sym c.read_verdict-verdict.ensures ∙ c.in-Ok.is)
    c.event_count-events.ensures c.if-output-list_length.true in
    record { answer = done.0; buffer = done.1 }

pub returns : goal.returns
returns c =
    let done =
    read_done c.args.n c.args.tape.now c.args.output.now (sym c.read_verdict-verdict.ensures ∙ c.in-Ok.is)
    c.event_count-events.ensures c.if-output-list_length.false c.unpack.ensures in
    record { answer = done.0; buffer = done.1 }
