-- Definitions that only private code cites.
pub mod Slots
pub mod Blocks
pub mod Indexes
pub mod Room
