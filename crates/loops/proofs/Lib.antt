pub mod LeftOut
pub mod Idle
pub mod Promise
