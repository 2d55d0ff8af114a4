pub mod Limits
pub mod Words
pub mod Pieces
pub mod Forms
pub mod Openings
