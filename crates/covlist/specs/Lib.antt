pub mod Chosen
pub mod Shown
pub mod Table
pub mod Json
