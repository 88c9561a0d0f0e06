-- With the envelope forward, without it pass requests.
use borrow.Author.Rules.{rules}
use Rattle.reaction.specs.Reaction.{so_far}
use Rattle.reaction.proofs.Stages.{relay_have, relay_without}
use Rattle.reaction.proofs.put.relay.Goals as goal

pub returns-then-has_envelope : goal.returns-then-has_envelope
returns-then-has_envelope c = search (rules, relay_have)

pub returns-else-has_envelope : goal.returns-else-has_envelope
returns-else-has_envelope c =
    relay_without (so_far c.args.step) c.has_envelope.ensures c.if-has_envelope.false
    (rw c.none.ensures at c.pass.ensures)
