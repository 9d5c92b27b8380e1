pub mod Measure
pub mod Names
pub mod Preorder
pub mod Shape
