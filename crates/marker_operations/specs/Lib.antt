-- What the contracts of the operations in turn cite.
pub mod Operations
