pub mod CommandTexts
pub mod EndedGets
pub mod EndedJobs
pub mod Fitting
pub mod Listings
pub mod NamesAfter
