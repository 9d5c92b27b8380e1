pub mod Layouts
pub mod Length
