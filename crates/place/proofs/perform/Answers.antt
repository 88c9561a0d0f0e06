-- An event that isn't possible is idle; any other is applied, and its reaction is placed.
use borrow.Author.Rules.{rules}
use Rattle.place.proofs.Ways.{may_test, idle_done, may_apply, may_place, moved_done}
use Rattle.place.proofs.perform.Goals as goal

pub is_possible-requires : goal.is_possible-requires
is_possible-requires c =
    may_test (λ k. search rules) c.requires c.at-own.ensures

pub returns-then-not-is_possible : goal.returns-then-not-is_possible
returns-then-not-is_possible c = let done = idle_done (λ k. search rules) c.requires c.at-own.ensures
    c.is_possible.ensures (rw c.if-not-is_possible.true) in record { answer = done.0; buffer = done.1 }

pub apply-r-requires : goal.apply-r-requires
apply-r-requires c =
    may_apply (λ k. search rules) c.requires c.at-own.ensures
    c.is_possible.ensures (rw c.if-not-is_possible.false) c.of-header.ensures

pub place-requires : goal.place-requires
place-requires c =
    may_place (λ k. search rules) c.requires c.at-own.ensures
    c.is_possible.ensures (rw c.if-not-is_possible.false) c.of-header.ensures c.apply-r.ensures
    c.size.ensures

pub returns : goal.returns
returns c = let done = moved_done (λ k. search rules) c.requires c.at-own.ensures
    c.is_possible.ensures (rw c.if-not-is_possible.false) c.of-header.ensures c.apply-r.ensures
    c.size.ensures c.place.ensures c.traffic.ensures in record { answer = done.0; buffer = done.1 }
