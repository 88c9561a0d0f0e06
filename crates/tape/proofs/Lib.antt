-- What holds of tapes, and the laws that the functions of this crate cite.
pub mod Writer
pub mod Reader
pub mod Parts
pub mod Written
pub mod Slots
pub mod Events
pub mod Round
pub mod Same
pub mod Covered
pub mod Moved
pub mod Word
pub mod Damage
pub mod Trips
