-- What the calls of this crate answer and write, in the model's terms.
pub mod Form
pub mod Lines
pub mod Writing
