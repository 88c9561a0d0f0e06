-- Process, code and two zeros, then the message.
use native.Mathlib.Omega.{arith}
use Rattle.event.specs.Parsed.{ruled}
use Rattle.event.proofs.Bytes.{event_written}
use Rattle.event.proofs.Event.put.Goals as goal

pub returns : goal.returns
returns c =
    event_written c.args.bytes.now c.args.at (ruled c.args.self) (omega arith) c.put.ensures
    c.write_at.ensures
