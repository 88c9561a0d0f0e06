-- Laws that the functions of this crate cite.
pub mod Apart
pub mod Ran
pub mod Whole
pub mod Call
