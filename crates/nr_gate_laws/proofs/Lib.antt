pub mod Worded
pub mod Forwarding
pub mod AutoFits
pub mod Remote
pub mod GatedReplies
pub mod NeverTooLarge
