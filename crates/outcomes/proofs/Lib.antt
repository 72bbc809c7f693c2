pub mod EndLaws
pub mod InputLaws
pub mod ManyEndLaws
pub mod PieceLaws
pub mod TellLaws
