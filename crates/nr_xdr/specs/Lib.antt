pub mod Item
pub mod Items
pub mod Room
pub mod Reading
pub mod Sequencing
pub mod Fields
pub mod Matching
