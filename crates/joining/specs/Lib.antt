pub mod Sound
pub mod Sealed
pub mod Split
pub mod Fixed
pub mod Promise
