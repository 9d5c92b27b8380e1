pub mod Derivations
pub mod Compile
pub mod Replay
pub mod Code
pub mod Run
pub mod Eval
pub mod Show
pub mod Bench
