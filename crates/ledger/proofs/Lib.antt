-- Laws that the functions of this crate cite, and that its callers need.
pub mod Bounds
pub mod Ways
