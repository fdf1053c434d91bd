-- Laws of the bytes of a segment's bits, of a line, and of the lines in turn.
pub mod Bits
pub mod Text
