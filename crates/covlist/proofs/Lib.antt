pub mod Apart
pub mod Begun
pub mod Files
pub mod Names
