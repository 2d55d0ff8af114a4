pub mod Content
pub mod AdapterState
pub mod Faults
pub mod MemSink
pub mod MemSource
pub mod Pipe
pub mod Streams
pub mod Whole
