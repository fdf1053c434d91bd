-- Laws of the search by numbers, of the settings by number, and of the moves of a network.
pub mod Least
pub mod Forward
pub mod Landing
pub mod Steering
pub mod SettingNumbers
pub mod SameWalk
pub mod Choices
pub mod Order
pub mod LeadsTo
pub mod TargetMasks
pub mod MoveLaws
pub mod SameSearch
pub mod Decoded
