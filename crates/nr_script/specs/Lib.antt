pub mod Limits
pub mod Lines
pub mod Script
pub mod Generator
pub mod private
