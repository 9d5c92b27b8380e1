pub mod Answers
pub mod Gather
pub mod Name
pub mod Number
pub mod RefusalLine
pub mod Spelling
pub mod Word
pub mod formers
