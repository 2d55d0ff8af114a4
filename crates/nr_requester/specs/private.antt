-- Definitions that only private code cites.
pub mod Resuming
