pub mod CircleLaws
pub mod ChangeLaws
pub mod ConstantLaws
pub mod EncodeLaws
