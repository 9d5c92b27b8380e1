pub mod FileOf
pub mod FileReread
