pub mod Step
pub mod Fill
pub mod Choice
pub mod Account
pub mod Handed
pub mod Noted
