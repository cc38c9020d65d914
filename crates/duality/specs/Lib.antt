pub mod Weighted
pub mod Promise
