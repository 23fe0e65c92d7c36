pub mod Items
pub mod Kept
pub mod Laws
