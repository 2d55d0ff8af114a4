pub mod Digits
pub mod Walks
pub mod Tables
pub mod Programs
pub mod Requests
pub mod Faults
pub mod Rows
pub mod Possible
