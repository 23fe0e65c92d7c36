-- Steps of the code, none of document 01's terms: nothing here need be believed.
pub mod FoundOperands
pub mod Courses
