-- The laws of the definitions: nothing here need be believed.
pub mod Opened
pub mod Run
pub mod RunAgreement
pub mod Tallies
pub mod Isolation
pub mod AloneTest
pub mod RunSound
pub mod Attempts
