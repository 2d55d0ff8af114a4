pub mod Forwarding
pub mod Gating
pub mod CallerParts
pub mod GateLinks
pub mod private
