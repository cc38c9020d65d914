pub mod Pieces
pub mod Cuts
pub mod Certificate
pub mod Promise
