pub mod Folders
pub mod PrintedSteps
pub mod Paths
