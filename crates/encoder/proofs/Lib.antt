pub mod EncodedLaws
pub mod ShownLaws
pub mod VerdictLaws
