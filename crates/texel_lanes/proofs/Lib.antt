pub mod LaneLaws
pub mod LineLaws
