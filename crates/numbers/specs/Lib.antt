-- What contracts over this crate cite beside the rules.
pub mod Verdicts
pub mod Values
