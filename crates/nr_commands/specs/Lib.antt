pub mod Printed
pub mod Endings
pub mod Sessions
pub mod Commands
pub mod Running
pub mod NumberedRuns
pub mod ByJobs
