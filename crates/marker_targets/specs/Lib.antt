-- What the contracts of this crate cite.
pub mod Answers
pub mod Targets
