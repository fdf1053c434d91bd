-- What the contracts of this crate cite, and what follows of them.
pub mod Recovery
pub mod Demand
