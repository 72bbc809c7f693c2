pub mod Faults
pub mod Files
pub mod Framing
pub mod Headers
pub mod Reading
