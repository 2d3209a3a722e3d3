pub mod Forms
pub mod Passed
pub mod Answers
pub mod Seen
pub mod Steps
