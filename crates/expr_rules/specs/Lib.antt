pub mod Words
pub mod Operations
pub mod Elements
pub mod rules
pub mod Row
pub mod Sound
pub mod Small
