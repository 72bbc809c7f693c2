pub mod EndingLaws
pub mod PictureLaws
pub mod TrialLaws
