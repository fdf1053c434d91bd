-- What the contracts of the planner cite: the call, and the demand on it.
pub mod Call
pub mod Demand
