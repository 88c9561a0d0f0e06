-- Traffic on a quiet ring.
pub mod Along
pub mod Seen
pub mod Rows
pub mod Only
pub mod Moves
pub mod Next
pub mod Leg
