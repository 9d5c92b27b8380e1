-- Proofs that the laws of `WordBook` cite. What an `impl` proves is cited from `specs`.
pub mod Fits
pub mod Words
pub mod Powers
pub mod Kept
