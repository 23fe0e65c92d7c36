-- The laws of the definitions: nothing here need be believed.
pub mod Items
pub mod Carried
pub mod Answers
pub mod Cut
pub mod OneItem
pub mod Queued
