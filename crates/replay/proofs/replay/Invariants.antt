-- Each turn performs the events of a block, so the image, the counts, the traffic and the ledger are always what the
-- events so far come to; every block but the last is full.
use Rattle.replay.proofs.Progress.{Progress}
use Rattle.replay.proofs.replay.Given as goal

abbrev pub invariant-loop-b : goal.invariant-loop-b
invariant-loop-b l =
    Progress l.initial.image l.tape l.events l.initial.ledger l.image l.ledger l.counts l.traffic l.b
