-- The laws behind the promises.
pub mod Numbers
pub mod Grown
pub mod Runs
pub mod Fitting
pub mod Promised
pub mod Results
pub mod Counts
