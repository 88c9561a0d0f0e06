-- Laws that the functions of this crate cite.
pub mod Bits
pub mod Made
pub mod Passed
pub mod Marks
pub mod Forward
pub mod Stages
