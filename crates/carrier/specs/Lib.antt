-- What the call answers, and the demands of it.
pub mod Call
pub mod Demand
