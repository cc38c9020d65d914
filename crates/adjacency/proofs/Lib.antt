pub mod Arcs
pub mod Filling
