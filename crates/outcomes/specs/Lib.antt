pub mod Causes
pub mod Ends
pub mod ManyEnds
pub mod Outcomes
pub mod Reports
pub mod Scenes
