pub mod Fold
pub mod For
pub mod If
pub mod Let
pub mod Map
pub mod Move
pub mod Put
