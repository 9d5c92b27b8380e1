mod Numbers
pub mod EarlyPaths
pub mod Measured
pub mod Pressures
pub mod laws
