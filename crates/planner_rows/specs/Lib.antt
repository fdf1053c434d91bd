-- What the contracts of the table of rows cite.
pub mod Rows
