pub mod Pieces
pub mod Stands
pub mod Short
pub mod Answering
pub mod Calling
pub mod Whole
pub mod Starred
