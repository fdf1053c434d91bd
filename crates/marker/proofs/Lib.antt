-- Laws of the marker: the whole mark by the operations and the targets, and what a passed plan leaves.
pub mod Verdicts
pub mod Leaving
pub mod Demand
