-- Definitions that only private code cites.
pub mod OutputPieces
pub mod Outputs
pub mod HeldSends
