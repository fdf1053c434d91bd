-- What the calls of this crate answer and write, in the model's terms.
pub mod Machine
pub mod Clocks
pub mod Demand
