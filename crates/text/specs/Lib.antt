-- What the calls of this crate answer, in the model's terms.
pub mod Places
pub mod Numbers
pub mod Words
pub mod Bits
