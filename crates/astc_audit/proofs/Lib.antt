pub mod CountLaws
pub mod VerdictLaws
pub mod ImageLaws
pub mod EndLaws
