-- Laws that the functions of this crate cite.
pub mod Words
pub mod Ways
pub mod Refused
