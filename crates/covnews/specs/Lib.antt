pub mod History
pub mod Snapshot
pub mod Publisher
pub mod ReaderFault
