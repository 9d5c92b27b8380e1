pub mod Kept
pub mod Registers
pub mod Rows
pub mod Runs
pub mod Table
