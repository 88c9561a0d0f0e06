-- Laws of the result slice.
pub mod Words
pub mod Told
pub mod Read
