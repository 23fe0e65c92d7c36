pub mod Run
pub mod Schedule
pub mod Compared
pub mod Trials
pub mod Code
