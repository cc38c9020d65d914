pub mod Fronts
pub mod Pairs
