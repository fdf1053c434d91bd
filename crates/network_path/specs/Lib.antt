-- The layout of the record, what the calls of this crate answer, and a network that the arrays hold.
pub mod Layout
pub mod Answers
pub mod Stored
