pub mod Paths
pub mod Renaming
pub mod Turns
