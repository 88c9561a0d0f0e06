-- Laws that the functions of this crate cite.
pub mod Sums
pub mod Words
pub mod Pass
