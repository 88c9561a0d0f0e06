-- What this crate's contracts and its callers' cite beside the rules.
pub mod Ready
pub mod Reaction
