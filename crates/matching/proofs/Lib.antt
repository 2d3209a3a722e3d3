pub mod TakingRule
pub mod Types
pub mod Use
pub mod FirstPlacing
pub mod Tight
pub mod Hall
pub mod Taking
