-- What holds of loads, and the laws that the functions of this crate cite.
pub mod Drawn
pub mod Ways
pub mod Tapes
