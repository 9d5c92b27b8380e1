pub mod AsModel
pub mod Exact
pub mod Instances
pub mod Nth
pub mod SameExpr
