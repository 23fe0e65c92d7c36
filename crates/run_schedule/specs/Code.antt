-- Steps of the code, none of document 01's terms: nothing here need be believed.
pub mod Carried
pub mod OneItem
pub mod Queued
