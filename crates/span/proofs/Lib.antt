-- Laws of stretches of bytes.
pub mod Laws
