pub mod Put
pub mod Fields
pub mod Packing
