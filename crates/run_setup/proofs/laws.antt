pub mod Meeting
pub mod Places
pub mod Served
pub mod Standing
