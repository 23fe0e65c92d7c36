pub mod Demand3
pub mod RoundTrips
pub mod LiveCounts
pub mod SectionNumbers
pub mod Trials
pub mod ImageInstances
pub mod Laws
