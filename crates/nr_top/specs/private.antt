-- Definitions that only private code cites.
pub mod ReportTexts
