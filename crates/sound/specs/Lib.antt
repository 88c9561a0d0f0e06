-- What this crate's contracts cite beside the rules.
pub mod Demands
pub mod Walk
pub mod Survey
