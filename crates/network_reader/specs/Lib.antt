-- What the record means, and what the calls of this crate answer.
pub mod Start
pub mod Counts
pub mod Reads
pub mod Demand
