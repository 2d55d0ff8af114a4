pub mod Completing
pub mod Configs
pub mod Journals
pub mod Readings
pub mod Servers
