pub mod Paths
pub mod Names
pub mod Relation
pub mod Meeting
pub mod Steps
