pub mod Steps
pub mod Loop
