pub mod Decided
pub mod First
pub mod Opened
pub mod Deciding
