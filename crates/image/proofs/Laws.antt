-- The laws of the definitions: nothing here need be believed.
pub mod Numbers
pub mod Codec
pub mod Formats
pub mod Conjoined
pub mod Passed
pub mod Accepted
pub mod Table
pub mod Again
pub mod Fields
pub mod DecodeSound
pub mod Trips
pub mod LiveCounts
pub mod Opened
pub mod Refusals
pub mod Sections
