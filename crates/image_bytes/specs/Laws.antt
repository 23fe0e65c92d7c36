-- The laws of the definitions: nothing here need be believed.
pub mod Fields
pub mod Listed
pub mod Spans
pub mod Scans
pub mod Cells
pub mod Bytes
pub mod Placed
pub mod Laid
