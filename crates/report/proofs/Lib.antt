pub mod Trials
pub mod Isolation
pub mod Instance
pub mod Laws
