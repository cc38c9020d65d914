pub mod Sets
pub mod Taking
