pub mod Classes
pub mod Jumps
pub mod Plugged
pub mod Turns
pub mod laws
