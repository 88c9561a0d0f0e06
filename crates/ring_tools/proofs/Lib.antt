-- Laws that the functions of this crate cite.
pub mod Ways
