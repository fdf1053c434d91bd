-- Laws of the whole text of a plan: its length, and its lines one after the other.
pub mod WholeText
pub mod Writings
pub mod Given
