pub mod Same
pub mod Trying
pub mod Cases
