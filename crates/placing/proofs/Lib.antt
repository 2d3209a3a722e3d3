pub mod FrontPlaces
pub mod Holders
pub mod PositionsLeft
pub mod Down
pub mod Visits
