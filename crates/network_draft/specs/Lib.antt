-- What the arrays and counts of a draft mean.
pub mod Store
pub mod Numbers
pub mod Represents
