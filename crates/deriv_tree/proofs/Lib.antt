pub mod Shallow
pub mod laws
