pub mod Loops
pub mod Chains
pub mod Ends
