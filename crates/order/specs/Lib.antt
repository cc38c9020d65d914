pub mod Precedes
pub mod Least
pub mod Ranked
pub mod Promise
