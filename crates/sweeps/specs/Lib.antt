pub mod Sweeps
pub mod Accounts
