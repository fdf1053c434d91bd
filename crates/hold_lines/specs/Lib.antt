-- The lines of the configuration that the arrays hold.
pub mod Lines
