pub mod laws
mod Lookup
mod Several
mod Found
mod Stored
pub mod Cut
