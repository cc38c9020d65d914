pub mod Plans
pub mod FirstPlans
pub mod Answered
pub mod Admission
pub mod Places
pub mod ReadBack
pub mod Promise
