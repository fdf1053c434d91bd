-- What the contracts of the search cite: the plan found.
pub mod Plans
