-- What the marker's calls answer, in the model's terms.
pub mod Marks
pub mod Left
pub mod Demand
