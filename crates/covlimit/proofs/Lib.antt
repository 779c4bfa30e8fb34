pub mod Parts
pub mod Formed
pub mod Room
