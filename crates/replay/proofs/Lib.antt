-- Laws that the functions of this crate cite.
pub mod First
pub mod Progress
pub mod Spare
pub mod Room
