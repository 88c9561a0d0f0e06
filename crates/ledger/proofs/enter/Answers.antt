-- A record without room is left out; any other is that of its outcome's number and message.
use borrow.Author.Rules.{rules}
use Rattle.ledger.proofs.Ways.{entered_short, entered}
use Rattle.ledger.proofs.enter.Goals as goal

pub returns-then-ledger-at : goal.returns-then-ledger-at
returns-then-ledger-at c = search (rules, entered_short)

pub returns : goal.returns
returns c = search (rules, entered)
