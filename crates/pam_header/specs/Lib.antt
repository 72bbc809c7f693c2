pub mod Faults
pub mod Headers
pub mod Lines
pub mod Text
pub mod Written
