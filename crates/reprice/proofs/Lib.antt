pub mod Repricing
