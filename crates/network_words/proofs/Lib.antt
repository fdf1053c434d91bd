-- Laws of words: their bits as numbers, as tests, and by the bytes of a BITS field.
pub mod WordLaws
pub mod WordTests
pub mod FieldLaws
