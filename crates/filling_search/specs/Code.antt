-- Steps of the code, none of document 02's terms: nothing here need be believed.
pub mod Steps
