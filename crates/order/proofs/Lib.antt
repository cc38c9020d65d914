pub mod Dictionary
pub mod Before
pub mod Least
pub mod First
pub mod Ranked
pub mod Promise
