pub mod Chunks
pub mod ListValue
pub mod Numbered
pub mod Printable
pub mod ReadsBack
pub mod Version1
