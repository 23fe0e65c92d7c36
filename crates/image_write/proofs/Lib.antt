pub mod Going
pub mod Parts
pub mod Sections
pub mod Whole
pub mod Answers
