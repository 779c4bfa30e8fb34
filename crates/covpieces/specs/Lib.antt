pub mod Whole
pub mod Sections
pub mod Pieces
pub mod LastLines
