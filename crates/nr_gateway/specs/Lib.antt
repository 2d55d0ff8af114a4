pub mod Gateways
pub mod Stops
