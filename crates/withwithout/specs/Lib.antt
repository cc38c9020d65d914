pub mod Figures
pub mod Least
