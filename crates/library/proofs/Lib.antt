pub mod InPlace
pub mod Confined
pub mod InTurn
pub mod Isolation
pub mod Accepted
pub mod OfCalls
pub mod Trials
pub mod Laws
