pub mod Copied
pub mod Numbers
pub mod Told
pub mod Walks
pub mod Rows
pub mod Fitting
pub mod Simple
pub mod Calls
