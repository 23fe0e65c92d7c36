pub mod Answers
pub mod Written
pub mod Trials
pub mod Laws
