pub mod Decoding
pub mod Values
pub mod Replied
pub mod Procedures
pub mod Replies
