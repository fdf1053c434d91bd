-- Laws of the path of a setting: the walk, the steering bits on it, marks of its segments, numbers by the marks.
pub mod SettingWalk
pub mod Ordering
pub mod PathMarks
pub mod Basing
