-- Document 01's lists of calls, the third demand, and what the stopped call says after every list; and link traffic
-- over calls.
pub mod Calls
pub mod Demand
pub mod Suite
pub mod Standstill
pub mod Sums
pub mod Performed
