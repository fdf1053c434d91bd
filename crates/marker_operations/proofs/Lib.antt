-- Laws of the operations in turn: the targets noted, and the run.
pub mod Noting
pub mod Running
