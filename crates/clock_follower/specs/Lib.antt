-- What the calls of this crate answer and write, in the model's terms.
pub mod Counts
pub mod Stretches
