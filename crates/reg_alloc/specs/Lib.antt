pub mod Check
pub mod Kept
pub mod Liveness
pub mod Marks
pub mod PlanOk
pub mod Registers
pub mod Visit
