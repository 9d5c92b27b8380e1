mod Answered
mod Decided
mod Exact
mod Own
mod Sets
