-- Laws of what the programs print, and the demands of every printing function.
pub mod Front
pub mod CallShown
pub mod Demand
