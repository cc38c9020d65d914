pub mod Shut
pub mod Least
pub mod OneRow
pub mod Alone
pub mod Promise
