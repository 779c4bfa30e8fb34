pub mod Spelling
pub mod CommandLine
pub mod Asked
pub mod Fault
pub mod Word
pub mod Built
pub mod Found
