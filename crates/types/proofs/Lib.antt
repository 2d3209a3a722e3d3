pub mod Blocked
pub mod LowerFront
pub mod LowerFrom
pub mod LowerDown
pub mod TookTyped
