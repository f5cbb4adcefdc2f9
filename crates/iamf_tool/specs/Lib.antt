pub mod Status
pub mod Words
pub mod Outcome
pub mod Answers
pub mod Ends
pub mod Complete
pub mod Checks
pub mod Waiting
