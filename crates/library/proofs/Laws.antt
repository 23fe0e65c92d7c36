-- The laws of the definitions: nothing here need be believed.
pub mod Opened
pub mod Refused
pub mod InPlace
pub mod Places
pub mod Held
pub mod InTurn
pub mod StepThenRun
pub mod Accepted
pub mod Confined
pub mod RowPlace
pub mod Numbers
