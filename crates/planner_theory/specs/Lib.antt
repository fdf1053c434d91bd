-- What the contracts and laws of the search cite: the search by numbers, the settings by number, the moves of a network, the bits
-- of a choice, the search from the start on.
pub mod Search
pub mod Settings
pub mod Moves
pub mod Choices
pub mod Layers
