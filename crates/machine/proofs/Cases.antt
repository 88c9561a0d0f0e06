-- Cases, computed but for two entries: the entries, each sentence of the events, every rule at its edge, each count in
-- its place, what the suite's host is told, loads, and surveys.
pub mod Computed
pub mod Case
pub mod Entries
pub mod Events
pub mod Edges
pub mod Boundaries
pub mod Counts
pub mod Host
pub mod Loads
pub mod Surveys
