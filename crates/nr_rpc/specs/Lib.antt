pub mod Constants
pub mod Credential
pub mod Call
pub mod Reply
pub mod Reading
