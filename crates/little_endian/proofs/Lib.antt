-- Laws that the functions of this crate, and those above it, cite.
pub mod Laws
