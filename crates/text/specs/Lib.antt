-- What this crate's contracts cite beside the rules.
pub mod Piece
pub mod Puts
