pub mod Alike
pub mod Kept
pub mod Dearer
pub mod Promise
