pub mod Each
pub mod Recorded
pub mod Samples
