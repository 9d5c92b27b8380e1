pub mod Closes
pub mod Combination
pub mod LinearForm
