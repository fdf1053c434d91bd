-- Laws of the controller followed over clocks, for this crate and for its callers.
pub mod Counts
pub mod Stretches
pub mod Playing
