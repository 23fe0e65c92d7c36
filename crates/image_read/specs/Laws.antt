-- The laws of the definitions: nothing here need be believed.
pub mod Few
pub mod Room
pub mod Read
