pub mod FormatLaws
pub mod JudgingLaws
pub mod SettlingLaws
pub mod ShowingLaws
