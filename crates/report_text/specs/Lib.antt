pub mod Texts
pub mod Code
pub mod Laws
