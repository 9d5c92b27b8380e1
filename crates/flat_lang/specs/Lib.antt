pub mod Backwards
pub mod Count
pub mod Meaning
pub mod Paths
pub mod Pressure
pub mod Renamed
pub mod State
pub mod Whole
