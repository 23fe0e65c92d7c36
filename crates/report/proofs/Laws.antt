-- The laws of the definitions: nothing here need be believed.
pub mod Opened
pub mod Agreeing
pub mod Lines
