pub mod Gathers
pub mod ChoicesMade
pub mod Lasts
pub mod AccountsNoted
pub mod Choices
pub mod Going
pub mod OffersMade
pub mod Scatters
