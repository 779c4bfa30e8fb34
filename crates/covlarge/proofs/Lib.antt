pub mod ToCome
pub mod Stages
pub mod Summary
pub mod Conversion
pub mod Cuts
pub mod Checking
pub mod PieceSteps
