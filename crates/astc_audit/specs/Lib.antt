pub mod Audits
pub mod Counts
pub mod Ends
pub mod Reports
pub mod Verdicts
