-- Laws of the definitions, for this crate's proofs and for its callers.
pub mod Table
pub mod Rows
pub mod Lines
pub mod Answers
pub mod Idle
pub mod Demand
