pub mod Elements
pub mod laws
