pub mod Lasts
pub mod Renames
mod Packing
mod Layouts
mod Packeds
mod Closes
mod Starts
mod Removes
mod Copied
