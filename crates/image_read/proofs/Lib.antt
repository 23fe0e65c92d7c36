pub mod Listed
pub mod Rows
pub mod Table
pub mod Fills
pub mod Whole
