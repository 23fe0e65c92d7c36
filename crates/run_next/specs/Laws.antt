-- The laws of the definitions: nothing here need be believed.
pub mod Next
pub mod Settled
pub mod Stands
pub mod Psws
pub mod Fits
pub mod Frees
pub mod Numbers
pub mod Tally
pub mod Running
pub mod Loop
