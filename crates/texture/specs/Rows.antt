-- The rows of blocks of a texture, in the order of its blocks.
use Rattle.std.specs.Prelude.{◌≡◌, ◌<◌, ℕ, ◌+◌, ◌*◌, List, map}
use Rattle.std.specs.List.{flat_map, range_with_len}
use Rattle.astc_model.specs.Sums.{sum_to}
use Rattle.texture.specs.Shapes.{Shape, rows_of, columns_of, image_count, level_blocks}
pub use Rattle.texture.specs.declared.rows.BlockRow.{BlockRow}

-- the number of the first block of a row
abbrev pub row_start : Shape → ℕ → ℕ → ℕ → ℕ
row_start shape level image row =
    sum_to (level_blocks shape) level + (image * rows_of shape level + row) * columns_of shape level

-- a row of an image of a level
abbrev pub row_at : Shape → ℕ → ℕ → ℕ → BlockRow
row_at shape level image row = record {
  level = level;
  image = image;
  row = row;
  first = row_start shape level image row;
  columns = columns_of shape level;
}

-- those of an image, from the top
unfoldable pub image_rows : Shape → ℕ → ℕ → List BlockRow
image_rows shape level image = map (row_at shape level image)
    (range_with_len 0 (rows_of shape level))

-- those of a level, by element and then by face
unfoldable pub level_rows : Shape → ℕ → List BlockRow
level_rows shape level = flat_map (image_rows shape level) (range_with_len 0 (image_count shape))

-- all of them, level by level
unfoldable pub block_rows : Shape → List BlockRow
block_rows shape = flat_map (level_rows shape) (range_with_len 0 shape.levels)

-- the texture has this row
pub record IsRowOf (shape : Shape) (row : BlockRow) : Type 0 where
  pub level_in : row.level < shape.levels
  pub image_in : row.image < image_count shape
  pub row_in : row.row < rows_of shape row.level
  pub is : row ≡ row_at shape row.level row.image row.row
