pub mod Flips
pub mod Walks
