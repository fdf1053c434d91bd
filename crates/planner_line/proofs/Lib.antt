-- Laws of an operation's line: the words shifted to bits that do not steer, the bits of a segment, and the whole line.
pub mod WantedWords
pub mod PutBits
pub mod PutOperation
