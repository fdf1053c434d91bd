-- What the contracts of the plan's writer cite.
pub mod Writing
