-- The laws of the definitions: nothing here need be believed.
pub mod Input
pub mod Texts
pub mod Room
pub mod Readings
pub mod Copies
