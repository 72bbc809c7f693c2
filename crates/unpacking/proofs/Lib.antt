pub mod BandLaws
pub mod ImageLaws
pub mod FileLaws
pub mod ToldLaws
