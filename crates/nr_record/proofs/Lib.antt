pub mod Lists
pub mod Standing
pub mod Waiting
pub mod Unique
pub mod Begun
pub mod Above
pub mod Again
