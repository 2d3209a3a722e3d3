pub mod Areas
pub mod Outcome
pub mod Truthful
pub mod Types
pub mod Rewritten
pub mod Promise
pub mod Writing
