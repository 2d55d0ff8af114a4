pub mod Connections
pub mod private
