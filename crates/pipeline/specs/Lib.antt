pub mod Serves
pub mod Around
pub mod Written
