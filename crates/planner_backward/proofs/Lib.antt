-- Laws of what is kept: of a setting's sets, of a slot setting by setting, and of the layers from the last back.
pub mod SetTests
pub mod Filtering
pub mod KeptLayers
