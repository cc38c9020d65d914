pub mod Alike
pub mod Quote
