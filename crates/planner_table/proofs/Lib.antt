-- Laws of sets of sets of targets, and of the table of layers by slots.
pub mod SetLaws
pub mod SlotLaws
pub mod Skipping
