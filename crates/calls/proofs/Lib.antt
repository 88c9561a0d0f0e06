-- The third demand, proved, and what the stopped call says; a run's traffic by steps.
pub mod Flags
pub mod Messages
pub mod Ledger
pub mod Shown
pub mod Calls
pub mod Demand
pub mod Witness
pub mod Suite
pub mod Standstill
pub mod Sums
pub mod Performed
