-- Laws of what the clock program prints.
pub mod ClocksShown
