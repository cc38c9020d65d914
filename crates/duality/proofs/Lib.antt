pub mod Over
pub mod Cuts
pub mod Bounds
pub mod Levels
pub mod Beside
pub mod Meeting
pub mod Promise
