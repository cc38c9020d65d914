pub mod Choice
pub mod Opening
