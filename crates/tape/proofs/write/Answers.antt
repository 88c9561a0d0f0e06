-- Refused as what it is given is, or by the room; else the packed blocks are the list's tape.
use mathlib.Core.Path.{sym, ◌∙◌}
use Rattle.tape.proofs.Writer.{write_refused, write_short, write_done}
use Rattle.tape.proofs.write.Goals as goal

pub returns-in_default : goal.returns-in_default
returns-in_default c =
    let done =
    write_refused c.args.n c.args.list.now c.args.output.now
    (sym c.write_verdict-verdict.ensures ∙ c.unwrap_err.ensures) in
    record { answer = done.0; buffer = done.1 }

pub returns-then-output-tape_length : goal.returns-then-output-tape_length
returns-then-output-tape_length c =
    let done =
    write_short c.args.n c.args.list.now c.args.output.now (sym c.write_verdict-verdict.ensures ∙ c.in-Ok.is)
    c.blocks_for-blocks.ensures.0 c.if-output-tape_length.true in
    record { answer = done.0; buffer = done.1 }

pub returns : goal.returns
returns c =
    let done =
    write_done c.args.n c.args.list.now c.args.output.now (sym c.write_verdict-verdict.ensures ∙ c.in-Ok.is)
    c.blocks_for-blocks.ensures.0 c.if-output-tape_length.false c.pack.ensures in
    record { answer = done.0; buffer = done.1 }
