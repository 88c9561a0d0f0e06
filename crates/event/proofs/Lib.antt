-- Laws that the functions of this crate, and those above it, cite.
pub mod Bytes
pub mod Whole
pub mod Codes
pub mod Possible
pub mod Next
pub mod Works
pub mod Applied
