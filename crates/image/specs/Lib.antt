pub mod Codec
pub mod Image
pub mod Sections
pub mod Fields
pub mod Demand3
