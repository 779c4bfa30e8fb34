pub mod Weights
pub mod Histories
pub mod Calls
pub mod Seated
pub mod Closed
pub mod Steps
pub mod Crossing
