pub mod Views
pub mod KeptMarks
pub mod Pieces
