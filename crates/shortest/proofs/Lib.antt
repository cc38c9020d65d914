pub mod Searching
pub mod Noting
pub mod Guiding
pub mod Following
