-- Words of bits and known marks, by numbers.
pub mod Words
