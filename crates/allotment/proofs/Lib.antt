pub mod Files
pub mod Calling
