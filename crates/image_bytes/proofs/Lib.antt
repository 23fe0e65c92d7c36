pub mod Bytewise
pub mod Filling
pub mod Putting
pub mod Testing
pub mod Scanning
