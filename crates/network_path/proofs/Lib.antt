-- Laws of nodes, the walk, the path, the load of an operation, and the network that the arrays hold.
pub mod NodeLaws
pub mod StepLaws
pub mod WalkLaws
pub mod PathLaws
pub mod LoadLaws
pub mod ConfigLaws
pub mod StoredLaws
