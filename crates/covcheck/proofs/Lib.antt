pub mod Starts
pub mod Passing
pub mod AllThat
pub mod Words
pub mod Answered
pub mod Keys
