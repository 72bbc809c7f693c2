pub mod Legality
pub mod Places
