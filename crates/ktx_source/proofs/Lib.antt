pub mod FileLemmas
pub mod PictureLemmas
pub mod RasterLemmas
pub mod SizeLemmas
