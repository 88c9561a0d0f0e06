-- Soundness is kept by every event: Kept has the theorem, and says how it goes.
pub mod Sound
pub mod Facts
pub mod Sums
pub mod Owed
pub mod Settled
pub mod Ways
pub mod Parts
pub mod Puts
pub mod Reactions
pub mod Around
pub mod Placed
pub mod Ranges
pub mod Octets
pub mod Kept
