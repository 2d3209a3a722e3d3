pub mod Form
pub mod Records
pub mod Steps
pub mod Questions
pub mod Numbered
pub mod Read
pub mod Reading
pub mod Refusal
