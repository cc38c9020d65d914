pub mod Cross
pub mod Laminar
pub mod CrossFree
pub mod Few
