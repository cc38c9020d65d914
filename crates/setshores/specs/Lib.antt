pub mod Columns
pub mod Shores
