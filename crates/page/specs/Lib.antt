pub mod Page
pub mod Reads
pub mod Parts
