pub mod Checked
pub mod Placed
pub mod Copied
pub mod Told
