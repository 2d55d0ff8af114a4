-- Definitions that only private code cites.
pub mod Code
pub mod Executing
