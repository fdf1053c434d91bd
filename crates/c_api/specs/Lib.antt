-- What the calls under C names answer.
pub mod Numbers
pub mod Progress
