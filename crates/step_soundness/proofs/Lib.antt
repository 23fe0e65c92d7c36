pub mod Loops
pub mod Seeing
pub mod Memories
