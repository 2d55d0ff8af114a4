pub mod Marks
pub mod Capture
pub mod Texts
pub mod Captured
pub mod Writable
pub mod private
