pub mod Above
pub mod Counted
pub mod Data
pub mod View
