pub mod Skipped
pub mod TextSummary
pub mod SummaryLine
pub mod CheckSteps
