-- The laws behind the calls: nothing here need be believed.
pub mod Rows
pub mod Seven
pub mod Lent
pub mod Called
pub mod Read
pub mod Run
pub mod Step
pub mod Write
