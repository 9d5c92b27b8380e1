pub mod Addresses
pub mod Yields
