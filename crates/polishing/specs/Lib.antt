pub mod Polished
pub mod Steps
