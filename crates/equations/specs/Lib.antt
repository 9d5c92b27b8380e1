pub mod Book
pub mod Equations
pub mod laws
