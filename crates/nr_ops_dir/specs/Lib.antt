pub mod Entries
pub mod Removal
pub mod Links
pub mod Renaming
pub mod Creation
pub mod Create
pub mod private
