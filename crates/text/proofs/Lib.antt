-- Laws of the model's text definitions, for this crate's proofs and for its callers.
pub mod Parts
pub mod Splitting
pub mod Decimals
pub mod Words
pub mod Bits
