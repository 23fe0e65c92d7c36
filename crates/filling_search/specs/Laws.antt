-- What the proofs of the functions rest on: nothing here need be believed.
pub mod Jobs
pub mod Choices
pub mod Places
pub mod Answers
