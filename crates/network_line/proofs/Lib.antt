-- Laws of a line's fields and of a node's bounds.
pub mod Lines
pub mod SegLines
pub mod MuxLines
pub mod Bounds
