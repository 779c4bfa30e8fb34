pub mod Prefixes
pub mod Runs
pub mod Appending
