-- Definitions that only private code cites.
pub mod Answering
pub mod Steps
