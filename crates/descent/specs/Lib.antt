pub mod Circle
pub mod Encoding
pub mod Least
pub mod Proposals
