pub mod Buffers
pub mod Calls
pub mod Numbers
pub mod Held
pub mod HeldTrials
pub mod Empty
pub mod Promises
pub mod Code
