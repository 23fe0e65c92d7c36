-- The laws behind the statements: nothing here need be believed.
pub mod Chosen
pub mod Best
pub mod Ceiling
pub mod Opened
