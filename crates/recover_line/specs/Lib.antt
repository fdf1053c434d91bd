-- What the calls of this crate answer, in the model's terms.
pub mod Answers
pub mod Progress
