pub mod Least
pub mod Listed
pub mod Says
pub mod Alone
