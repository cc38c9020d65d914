pub mod Potential
pub mod ZeroGraph
pub mod Flip
pub mod Repair
pub mod Compare
