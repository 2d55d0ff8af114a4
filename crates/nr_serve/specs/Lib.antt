pub mod Laws
pub mod Serving
pub mod Stops
