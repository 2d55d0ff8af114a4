pub mod Forwarded
pub mod GatedReplies
pub mod NeverTooLarge
