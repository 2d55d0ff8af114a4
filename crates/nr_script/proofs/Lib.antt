pub mod ByteLists
pub mod Counts
pub mod Draws
pub mod Steps
pub mod TypedScripts
pub mod MadeScripts
