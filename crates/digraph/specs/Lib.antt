pub mod Reach
pub mod Paths
pub mod Closure
pub mod Search
pub mod Distances
pub mod Layers
pub mod Turns
