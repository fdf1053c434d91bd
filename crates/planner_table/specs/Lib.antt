-- What the contracts of the sets of sets of targets and of the slots cite.
pub mod Sets
pub mod Table
