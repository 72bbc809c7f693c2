pub mod Counting
pub mod Files
pub mod Headers
pub mod Reading
