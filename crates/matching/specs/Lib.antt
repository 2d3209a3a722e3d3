pub mod Use
pub mod FirstPlacing
pub mod ForUse
