pub mod Dropped
pub mod Around
pub mod SolidRows
pub mod Each
