-- Laws of the definitions, for this crate's proofs and for its callers.
pub mod Bits
pub mod Lines
pub mod Forms
pub mod Writing
