-- Laws of the planner: the record of an accepted network, the search for one network, and the whole call.
pub mod Records
pub mod Finding
pub mod Calling
pub mod Planning
pub mod Demand
