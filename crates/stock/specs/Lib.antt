pub mod Site
pub mod Places
pub mod Promise
