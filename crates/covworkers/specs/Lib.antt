pub use Rattle.covlock.specs.Start
pub mod GivenView
pub mod CollectFault
pub mod Collect
pub mod Shares
pub mod Work
pub mod Late
pub mod Stops
