pub mod Removal
pub mod Around
