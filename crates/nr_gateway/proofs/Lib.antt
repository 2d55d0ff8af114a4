pub mod Completing
pub mod Configs
pub mod Openings
