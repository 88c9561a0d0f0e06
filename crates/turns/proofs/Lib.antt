-- Laws that the functions of this crate cite, and that its callers need.
pub mod Joined
pub mod Packed
pub mod Progress
pub mod Ways
