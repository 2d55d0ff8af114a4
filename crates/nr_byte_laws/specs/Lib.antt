pub mod InBytes
pub mod DueBytes
