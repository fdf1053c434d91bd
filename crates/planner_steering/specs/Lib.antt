-- What the contracts of the steering bits cite: the list of them, and the words of a setting.
pub mod Steering
