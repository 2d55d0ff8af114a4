pub mod WordBytes
pub mod Cursors
pub mod Items
pub mod Chains
pub mod SequencingSteps
pub mod OneReading
pub mod Fronts
pub mod Rooms
