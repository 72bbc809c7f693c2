pub mod Alone
pub mod Arguments
pub mod Bands
pub mod Formats
pub mod Judging
pub mod Settling
pub mod Showing
