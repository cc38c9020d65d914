pub mod Adding
pub mod Found
pub mod Insertion
pub mod Places
pub mod Room
