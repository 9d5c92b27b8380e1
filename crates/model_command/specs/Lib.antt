pub mod Computes
pub mod Measures
