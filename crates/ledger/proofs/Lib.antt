pub mod Padded
pub mod Choices
