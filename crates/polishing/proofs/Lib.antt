pub mod EndLaws
pub mod PolishLaws
