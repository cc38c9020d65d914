pub mod Finite
pub mod First
pub mod Lists
