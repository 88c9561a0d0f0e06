-- The markers are set first; by what they then say the envelope leaves or stays.
use Rattle.reaction.proofs.Forward.{markers_tidy, forward_leaves, forward_stays}
use Rattle.reaction.proofs.put.forward.Goals as goal

pub is_wanted-requires : goal.is_wanted-requires
is_wanted-requires c =
    markers_tidy c.args.step c.asked.ensures c.with_markers-header.ensures.0 c.with_markers-header.ensures.1

pub returns-then-is_wanted : goal.returns-then-is_wanted
returns-then-is_wanted c =
    rw c.so_far.ensures
    (forward_leaves c.args.step c.asked.ensures c.with_markers-header.ensures.0 c.with_markers-header.ensures.1
    c.is_wanted.ensures c.if-is_wanted.true c.without.ensures)

pub returns : goal.returns
returns c =
    rw c.so_far-2.ensures
    (forward_stays c.args.step c.asked.ensures c.with_markers-header.ensures.0 c.with_markers-header.ensures.1
    c.is_wanted.ensures c.if-is_wanted.false)
