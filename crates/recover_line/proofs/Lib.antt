-- Laws of the calls for a line and for the end.
pub mod NoState
pub mod Pins
pub mod OneLine
pub mod PutLine
