-- Pictures with stored mip levels, and the file that has them (Khronos KTX file format, version 1).
use Rattle.std.specs.Prelude.{◌≡◌, ◌<◌, ℕ, List, [], ◌∷◌, length, get_or, take, drop, Result, Ok}
use Rattle.astc_model.specs.Chains.{side_at_level}
use Rattle.images.specs.Pictures.{Pictures}
use Rattle.texture.specs.declared.extent.Extent.{Extent}
use Rattle.ktx_header.specs.Chaining.{◌>>=◌}
use Rattle.texture.specs.Extents.{IsExtent, images_of}
use Rattle.ktx_header.specs.Levels.{LevelSizes, data_of}
use Rattle.ktx_source.specs.declared.format.Format.{Format}
use Rattle.ktx_source.specs.Faults.{SourceFault, in_data}
use Rattle.ktx_source.specs.Headers.{header_in}
use Rattle.ktx_source.specs.Rasters.{level_bytes, image_size, pictures_in}

-- sides of level 0, array elements, faces, and the levels: the images of each by element, then by
-- face
pub record SourceFile : Type 0 where
  pub width : ℕ
  pub height : ℕ
  pub elements : ℕ
  pub faces : ℕ
  pub levels : List Pictures

-- the extent of pictures
abbrev pub extent_in : SourceFile → Extent
extent_in source = record {
  width = source.width;
  height = source.height;
  elements = source.elements;
  faces = source.faces;
  levels = length source.levels;
}

-- the pictures of an extent with these levels
abbrev pub source_with : Extent → List Pictures → SourceFile
source_with extent levels = record {
  width = extent.width;
  height = extent.height;
  elements = extent.elements;
  faces = extent.faces;
  levels = levels;
}

-- the sides of a level, and a face each of every element
pub record IsLevelOf (extent : Extent) (level : ℕ) (images : Pictures) : Type 0 where
  pub width : images.width ≡ side_at_level extent.width level
  pub height : images.height ≡ side_at_level extent.height level
  pub count : images.count ≡ images_of extent

-- the levels of an extent
pub record AreLevels (extent : Extent) (levels : List Pictures) : Type 0 where
  pub count : length levels ≡ extent.levels
  pub each : (level : ℕ) (default : Pictures) → level < extent.levels
      → IsLevelOf extent level (get_or levels level default)

-- what pictures may be
pub record IsSource (source : SourceFile) : Type 0 where
  pub valid : IsExtent (extent_in source)
  pub full : AreLevels (extent_in source) source.levels

-- what the levels of a file are: images
abbrev pub levels_in : Format → Extent → LevelSizes Pictures
levels_in format extent = record {
  size = image_size format extent;
  bytes = level_bytes format extent;
  content = λ level bytes. pictures_in format extent level bytes ∷ [];
}

-- the pictures that a file has, or its first fault
unfoldable pub source_of : List ℕ → Result SourceFile SourceFault
source_of bytes = do
  header ← header_in (take 64 bytes)
  levels ← in_data (data_of header.order (levels_in header.format header.extent)
      header.extent.levels header.key_bytes (drop 64 bytes))
  Ok (source_with header.extent levels)
