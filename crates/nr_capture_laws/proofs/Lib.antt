pub mod WritableLines
pub mod WritableSteps
pub mod CompletedWords
pub mod WritableRuns
