pub mod laws
mod Bounds
pub mod Reached
pub mod Steps
