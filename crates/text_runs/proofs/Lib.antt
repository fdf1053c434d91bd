-- Laws of runs.
pub mod RunLaws
