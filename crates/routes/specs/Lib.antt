pub mod Route
pub mod Reached
pub mod Nearer
