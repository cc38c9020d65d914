pub mod Layout
pub mod Trying
pub mod Cases
