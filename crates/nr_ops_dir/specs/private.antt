-- Definitions that only private code cites.
pub mod Removed
pub mod Added
