pub mod Steps
pub mod ReachStep
pub mod Reached
pub mod Shortest
