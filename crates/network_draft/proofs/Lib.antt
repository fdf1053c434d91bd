-- Laws of the draft.
pub mod Nodes
pub mod Representing
pub mod GivenBits
pub mod SteeringWords
pub mod TargetLaws
