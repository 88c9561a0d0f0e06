-- Laws that the functions of this crate cite.
pub mod Packed
pub mod Rows
