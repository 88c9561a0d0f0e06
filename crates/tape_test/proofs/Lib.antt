-- Laws that the functions of this crate cite.
pub mod Blocks
pub mod Lengths
pub mod Ways
pub mod Slots
