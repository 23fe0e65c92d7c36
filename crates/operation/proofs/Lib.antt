pub mod Exclusions
pub mod ConstantInstances
pub mod PartInstances
pub mod OperationInstances
pub mod CheckInstances
pub mod Filling
pub mod Laws
