pub mod Exact
pub mod Readings
