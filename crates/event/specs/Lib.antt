-- What this crate's contracts cite beside the rules.
pub mod Parsed
pub mod Rows
pub mod Applied
