pub mod Lists
pub mod Gathers
pub mod Numbers
