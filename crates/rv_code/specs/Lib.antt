pub mod Field
pub mod Signed
pub mod Word
