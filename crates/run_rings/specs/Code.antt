-- Steps of the code, none of document 01's terms: nothing here need be believed.
pub mod Place
pub mod Laid
pub mod Mask
pub mod Records
pub mod Rings
pub mod Spans
