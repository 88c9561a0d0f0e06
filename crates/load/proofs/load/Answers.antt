-- Refused as what it is given is, or by the room; else the drawn blocks are the load's tape.
use mathlib.Core.Path.{sym, ◌∙◌}
use Rattle.load.proofs.Ways.{load_refused, load_short, load_done}
use Rattle.load.proofs.load.Goals as goal

pub returns-in_default : goal.returns-in_default
returns-in_default c =
    let done =
    load_refused c.args.n c.args.seed c.args.count c.args.output.now
    (sym c.load_verdict-verdict.ensures ∙ c.unwrap_err.ensures) in
    record { answer = done.0; buffer = done.1 }

pub returns-then-output-tape_length : goal.returns-then-output-tape_length
returns-then-output-tape_length c =
    let done =
    load_short c.args.n c.args.seed c.args.count c.args.output.now
    (sym c.load_verdict-verdict.ensures ∙ c.in-Ok.is) c.blocks_for-blocks.ensures.0
    c.if-output-tape_length.true in
    record { answer = done.0; buffer = done.1 }

pub returns : goal.returns
returns c =
    let done =
    load_done c.args.n c.args.seed c.args.count c.args.output.now
    (sym c.load_verdict-verdict.ensures ∙ c.in-Ok.is) c.blocks_for-blocks.ensures.0
    c.if-output-tape_length.false c.draw_blocks.ensures in
    record { answer = done.0; buffer = done.1 }
