-- Own record, header, and the neighbour that is reached, one after the other.
use borrow.Author.Rules.{rules}
use Rattle.place.proofs.Written.{placed_left}
use Rattle.place.proofs.Written.{placed_right}
use Rattle.place.proofs.place.Goals as goal

pub returns-in-Left : goal.returns-in-Left
returns-in-Left c =
    placed_left (λ k. search rules) c.requires
    c.put.ensures c.put-2.ensures c.in-Left.is c.left-to_left.ensures
    (rw (c.requested.ensures, c.at.ensures) at c.put-in-Left.ensures)

pub returns-in-Right : goal.returns-in-Right
returns-in-Right c =
    placed_right (λ k. search rules) c.requires
    c.put.ensures c.put-2.ensures c.in-Right.is c.right-to_right.ensures
    (rw (c.arrived.ensures, c.at-in-Right.ensures) at c.put-in-Right.ensures)
