pub mod Atoms
pub mod Inversion
pub mod Layers
pub mod Printed
