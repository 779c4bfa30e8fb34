pub mod Merge
pub mod Counted
pub mod Added
