-- Laws that the functions of this crate, and those above it, cite.
pub mod Fields
pub mod Headers
pub mod Changes
pub mod Images
pub mod Pairs
pub mod Neighbours
