pub mod Bindings
pub mod Refused
pub mod Formed
pub mod Blocks
