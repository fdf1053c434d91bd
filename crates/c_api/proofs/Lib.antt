-- Laws of the answers as numbers.
pub mod Read
pub mod Marked
pub mod Progressed
