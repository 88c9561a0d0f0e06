-- What this crate's contracts cite beside the rules.
pub mod Playable
pub mod Played
