pub mod Layout
pub mod Sizes
pub mod Written
