mod Counting
mod Nodes
mod Modest
mod Typing
pub mod laws
