pub mod Following
pub mod Prefixes
pub mod GoingOn
pub mod Sessions
pub mod Once
pub mod Beginnings
pub mod ClientSides
pub mod BothSides
