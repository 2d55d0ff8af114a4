-- Definitions that only private code cites.
pub mod Counts
pub mod Steps
