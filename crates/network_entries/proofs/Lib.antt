-- Laws of `hold`, `write` and `read` lines.
pub mod AddingHolds
pub mod AddingTargets
