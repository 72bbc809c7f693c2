pub mod Outside
pub mod Reading
pub mod Steps
pub mod Written
