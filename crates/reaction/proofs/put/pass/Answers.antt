-- What is wished or asked for by the right is asked for; what of it wasn't goes left.
use Rattle.reaction.proofs.Passed.{pass_made}
use Rattle.reaction.proofs.put.pass.Goals as goal

pub returns : goal.returns
returns c =
    rw c.so_far.ensures
    (pass_made c.args.step c.args.wish c.asked.ensures c.itself.ensures c.bitor-wanted.ensures
    (rw c.not.ensures at c.bitand.ensures) c.with.ensures)
