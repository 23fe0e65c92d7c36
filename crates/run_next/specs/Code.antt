-- Steps of the code, none of document 01's terms: nothing here need be believed.
pub mod Next
pub mod Settled
pub mod Stands
pub mod Numbers
pub mod Tally
pub mod Running
