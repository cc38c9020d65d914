pub mod Record
pub mod Shape
