-- Laws of what the read program prints.
pub mod ReadingShown
