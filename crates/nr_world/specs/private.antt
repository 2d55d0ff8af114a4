-- Definitions that only private code cites.
pub mod HandsOver
pub mod Opened
pub mod Results
pub mod Stands
pub mod Within
pub mod Working
