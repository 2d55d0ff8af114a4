pub mod HeadSteps
pub mod Loop
pub mod Written
pub mod WordHeads
pub mod Credentials
pub mod Calls
pub mod Replies
pub mod FittingCredentials
