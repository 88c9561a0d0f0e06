-- A bit of either set is one of the two.
use Rattle.record.proofs.Pairs.{wants_few}
use Rattle.record.proofs.statuses.StatusesBitOr.bitor.Goals as goal

pub invariant_of-result : goal.invariant_of-result
invariant_of-result c = record { two = wants_few c.args.self.bits c.args.rhs.bits c.args.self.two c.args.rhs.two }
