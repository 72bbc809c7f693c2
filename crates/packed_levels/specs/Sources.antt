-- The sources of the blocks of a texture, in the order of its file.
use Rattle.std.specs.Prelude.{◌≡◌, ◌<◌, ℕ, List, [], slice_index_or, length}
use Rattle.std.specs.List.{flat_map}
use Rattle.astc_model.specs.Chains.{side_at_level}
use Rattle.astc_model.specs.FootprintNames.{sides_of}
use Rattle.images.specs.Pictures.{Pictures}
use Rattle.texture.specs.declared.shape.Shape.{Shape}
use Rattle.texture.specs.Shapes.{image_count}
use Rattle.texture.specs.declared.rows.BlockRow.{BlockRow}
use Rattle.texture.specs.Rows.{block_rows}
use Rattle.packed_levels.specs.Settling.{Places}
use Rattle.packed_levels.specs.RowSources.{row_sources}

-- no images at all
abbrev pub no_pictures : Pictures
no_pictures = record { width = 0; height = 0; count = 0; texels = [] }

-- the images of a level
abbrev pub images_in : List Pictures → ℕ → Pictures
images_in levels level = slice_index_or levels level no_pictures

-- there are images for each level of the shape: of the level's sides, and an image for each face of
-- each element
pub record ArePackedLevels (shape : Shape) (levels : List Pictures) : Type 0 where
  pub count : length levels ≡ shape.levels
  pub widths : (level : ℕ) → level < shape.levels → (images_in levels level).width
      ≡ side_at_level shape.width level
  pub heights : (level : ℕ) → level < shape.levels → (images_in levels level).height
      ≡ side_at_level shape.height level
  pub counts : (level : ℕ) → level < shape.levels → (images_in levels level).count
      ≡ image_count shape

-- the sources of a row of blocks
abbrev pub sources_of_row : Shape → List Pictures → BlockRow → List Places
sources_of_row shape levels row = row_sources (sides_of shape.name).0 (sides_of shape.name).1
    (images_in levels row.level) row.columns row.image row.row

-- row by row
unfoldable pub sources : Shape → List Pictures → List Places
sources shape levels = flat_map (sources_of_row shape levels) (block_rows shape)
