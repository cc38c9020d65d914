pub mod Solid
pub mod SolidRows
