-- The laws of the definitions: nothing here need be believed.
pub mod Rings
pub mod Mask
pub mod Live
pub mod Copies
pub mod Records
pub mod Rows
pub mod Spans
pub mod Places
pub mod Laid
