-- Laws of the call by the mark, and the demands of it.
pub mod Carrying
pub mod Demand
