pub mod Gathering
pub mod Nearer
pub mod UpperSets
pub mod Listing
pub mod Certified
pub mod Beside
