pub mod Streams
pub mod Printed
pub mod Folder
pub mod OutputFiles
pub mod Begun
pub mod World
pub mod StdFaults
pub mod Files
