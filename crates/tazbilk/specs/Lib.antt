pub mod Allotting
pub mod Reviewing
