pub mod Finding
pub mod Outcome
pub mod Promise
pub mod Search
pub mod Tables
