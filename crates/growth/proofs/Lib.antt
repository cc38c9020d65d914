pub mod Cut
pub mod Reached
pub mod Expanding
pub mod Sure
pub mod Searches
pub mod Meetings
pub mod Meets
