pub mod Ascent
pub mod Marked
pub mod Short
