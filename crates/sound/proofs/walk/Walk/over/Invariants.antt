-- With some records still to come the walk holds what the rules say of those behind them.
use lib.Dec.{eqb}
use Rattle.sound.proofs.Walked.{Going}
use Rattle.sound.proofs.walk.Walk.over.Given as goal

abbrev pub invariant-loop-i : goal.invariant-loop-i
invariant-loop-i l =
    Going l.image (eqb l.status 1) l.n l.i-iterator.iter.count l.i-iterator.iter.iter.rest.now l.walk
