pub mod Left
pub mod Offers
pub mod Search
pub mod Taken
