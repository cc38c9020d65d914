pub mod Hall
pub mod File
pub mod Plan
