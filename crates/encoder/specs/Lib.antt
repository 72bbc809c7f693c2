pub mod Encoders
pub mod Shown
pub mod Verdicts
