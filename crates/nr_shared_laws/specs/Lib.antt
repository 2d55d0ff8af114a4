pub mod Sessions
pub mod BothSides
