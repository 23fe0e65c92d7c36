-- The laws of the definitions: nothing here need be believed.
pub mod Texts
pub mod Digits
pub mod Lengths
pub mod Rows
