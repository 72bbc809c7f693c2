pub mod Framing
pub mod Gathering
pub mod JoinEnds
pub mod Joins
pub mod Numbered
pub mod Parts
pub mod Together
