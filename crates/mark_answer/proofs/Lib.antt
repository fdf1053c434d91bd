-- Laws of what the mark program prints.
pub mod MarkShown
