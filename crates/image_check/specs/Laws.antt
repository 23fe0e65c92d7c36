-- The laws of the definitions: nothing here need be believed.
pub mod Sections
pub mod Found
