pub mod Loops
pub mod Appending
pub mod ReadingAll
pub mod Skipping
pub mod Tags
