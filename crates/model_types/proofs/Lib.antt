pub mod AtPlace
pub mod Binding
pub mod Parts
