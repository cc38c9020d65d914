pub mod Reprice
