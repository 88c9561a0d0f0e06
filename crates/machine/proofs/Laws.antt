-- Laws of the words in which the rules are written.
pub mod Lists
pub mod Bytes
pub mod Bits
pub mod Ored
pub mod Splices
pub mod Chunks
pub mod Joined
pub mod Ring
pub mod Walk
pub mod Refusals
pub mod Filling
pub mod First
