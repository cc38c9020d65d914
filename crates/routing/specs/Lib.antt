pub mod Route
