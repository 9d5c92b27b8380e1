mod Listed
mod Products
mod Values
pub mod laws
