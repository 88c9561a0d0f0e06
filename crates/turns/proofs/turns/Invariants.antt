-- Each turn performs, counts and enters the next event, so the image, the ledger and the word of counts are always what
-- the events so far come to.
use Rattle.turns.proofs.Progress.{Progress}
use Rattle.turns.proofs.turns.Given as goal

abbrev pub invariant-loop-k : goal.invariant-loop-k
invariant-loop-k l =
    Progress l.initial.image l.events l.first l.initial.ledger l.from l.image l.ledger l.counts l.place l.k
