pub mod Category
pub mod Round
pub mod Places
pub mod Changed
pub mod Rules
pub mod Sound
