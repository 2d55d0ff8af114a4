pub mod Counters
pub mod Calls
pub mod Feeds
pub mod Asks
