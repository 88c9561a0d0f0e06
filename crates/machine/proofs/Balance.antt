-- The third demand over events. Clauses names what always holds; a module for each clause shows what one event owes for
-- it at its own process (Pairs and Stages are their laws of bits and stages); then the ring, the standstill and the
-- theorem. docs/PROOFS.md, "The invariant", has the whole argument in words. For what builds on it: one event keeps the
-- invariant (Kept.event-kept), a list too (Kept.events-kept), every list from the fresh ring has it (Theorem.reached),
-- and a ring that is stopped and full has a process in stage 5 (Standstill.stopped-full).
pub mod Clauses
pub mod Pairs
pub mod Stages
pub mod Header
pub mod Rest
pub mod Claimed
pub mod HasAsked
pub mod Handed
pub mod Counted
pub mod OnRing
pub mod Kept
pub mod Walk
pub mod Still
pub mod Standstill
pub mod Start
pub mod Theorem
pub mod Witness
