pub mod Codes
pub mod Roles
pub mod Results
pub mod Specified
pub mod Environment
pub mod Perform
pub mod Decide
pub mod Code
