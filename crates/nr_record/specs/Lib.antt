pub mod Constants
pub mod Records
pub mod RecordsState
pub mod private
