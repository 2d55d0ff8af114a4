-- Definitions that only private code cites.
pub mod CreditState
pub mod Flushed
pub mod Taking
pub mod Needs
pub mod Reading
