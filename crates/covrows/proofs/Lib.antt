mod Least
mod Walks
mod Different
mod Totals
mod Renames
mod Stands
mod Plans
pub mod Crossing
