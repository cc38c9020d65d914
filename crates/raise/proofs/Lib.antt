pub mod Rooms
pub mod Lifts
pub mod Raising
