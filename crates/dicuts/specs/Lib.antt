pub mod Shores
pub mod Listed
pub mod Arcs
pub mod Crossing
pub mod Parts
