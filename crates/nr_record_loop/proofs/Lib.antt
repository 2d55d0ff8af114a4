pub mod Writing
pub mod Exchanges
pub mod Readers
pub mod Executions
pub mod Above
pub mod Ends
pub mod Carries
