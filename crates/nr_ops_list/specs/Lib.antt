pub mod Lookup
pub mod Readdir
pub mod private
