pub mod Growing
pub mod KeptMarks
