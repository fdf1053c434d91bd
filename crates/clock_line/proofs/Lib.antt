-- Laws of lines of clocks; the other folders prove the functions.
pub mod Lines
pub mod Ends
