pub mod Repairing
pub mod Steps
