pub mod Robust
pub mod Growth
