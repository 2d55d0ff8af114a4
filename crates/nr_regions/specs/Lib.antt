pub mod Code
pub mod RegisteredMemory
pub mod Windows
pub mod Access
pub mod Events
pub mod Table
