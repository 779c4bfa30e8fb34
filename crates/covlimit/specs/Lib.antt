pub mod Rates
pub mod Cuts
pub mod Shortfalls
pub mod Limits
pub mod LimitsView
