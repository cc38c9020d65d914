pub mod Thresholds
pub mod Beside
pub mod Filled
