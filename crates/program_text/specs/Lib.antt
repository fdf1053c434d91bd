-- What the contracts of the printing functions cite, and what follows of them.
pub mod Printing
pub mod Demand
