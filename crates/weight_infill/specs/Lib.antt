pub mod Surrounded
pub mod Touched
