pub mod Faults
pub mod Moves
pub mod Pieces
