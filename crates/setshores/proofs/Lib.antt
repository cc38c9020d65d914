pub mod Columns
pub mod Rest
pub mod Taking
pub mod Components
pub mod Times
pub mod Alike
