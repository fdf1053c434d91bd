-- Laws of the goals of a slot, of what an operation adds to a slot, and of layer after layer.
pub mod GoalLaws
pub mod SpreadLaws
pub mod Leaving
pub mod Layering
