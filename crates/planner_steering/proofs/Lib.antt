-- Laws of the steering bits in arrays, of the words of a setting, and of its number.
pub mod Listing
pub mod Wording
pub mod Numbering
