pub mod Sizes
pub mod Counting
pub mod Rooms
pub mod ListingLimits
pub mod Live
pub mod Written
