pub mod Backed
pub mod Start
