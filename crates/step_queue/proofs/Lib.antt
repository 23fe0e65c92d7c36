pub mod Rings
pub mod Counts
