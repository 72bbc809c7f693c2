pub mod FrontLaws
pub mod ImageLaws
pub mod LoopLaws
pub mod RasterLaws
pub mod SayLaws
pub mod WideningLaws
pub mod WrittenLaws
