-- Definitions that only private code cites.
pub mod Becomes
pub mod Pieces
pub mod FileSteps
pub mod OpenReads
pub mod InputWindows
pub mod JobReads
