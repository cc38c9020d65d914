pub mod Stages
pub mod Prices
pub mod Reading
