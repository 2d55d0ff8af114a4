pub mod Attributes
pub mod Bytes
pub mod Links
pub mod FileSystem
