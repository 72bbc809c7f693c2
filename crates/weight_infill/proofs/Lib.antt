pub mod InfillLaws
pub mod SurroundedLaws
pub mod TouchedLaws
