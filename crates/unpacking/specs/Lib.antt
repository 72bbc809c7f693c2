pub mod Bands
pub mod Reports
pub mod Unpacked
