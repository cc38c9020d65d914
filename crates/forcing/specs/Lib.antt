pub mod Figures
pub mod Shut
pub mod Promise
