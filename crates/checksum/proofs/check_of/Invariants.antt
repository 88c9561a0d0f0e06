-- What was summed so far is what the rule sums of the slots so far, and no sum is wide.
use Rattle.checksum.proofs.Pass.{Summed, Narrow}
use Rattle.checksum.proofs.check_of.Given as goal

abbrev pub invariant-loop-slot : goal.invariant-loop-slot
invariant-loop-slot l = record {
  first : Narrow l.slot-index l.first;
  second : Narrow l.slot-index l.second;
  third : Narrow l.slot-index l.third;
  fourth : Narrow l.slot-index l.fourth;
  summed : Summed l.block l.slot-index l.first l.second l.third l.fourth;
}
