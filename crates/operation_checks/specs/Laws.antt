-- The laws of the definitions: nothing here need be believed.
pub mod Operands
pub mod Found
pub mod Listed
