-- What the contracts of the goals and of the layers cite.
pub mod Goals
pub mod Spreading
