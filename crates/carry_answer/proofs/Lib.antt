-- Laws of what the carry program prints.
pub mod CarryShown
