-- What the contracts of the walk in a setting cite.
pub mod Route
