-- What the contracts of an operation's line cite.
pub mod Line
