pub mod BestChosen
pub mod Sets
pub mod Trials
pub mod Laws
