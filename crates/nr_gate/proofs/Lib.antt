pub mod Asked
pub mod OwnXid
pub mod Steps
pub mod Ends
pub mod Links
