-- How far the rows of blocks of a texture have been gone through.
use Rattle.std.specs.Prelude.{◌≡◌, ◌<◌, ◌≤◌, ℕ, zero, suc, ◌+◌, ◌-◌, List, [], ◌++◌, map}
use Rattle.std.specs.List.{flat_map, range_with_len}
use Rattle.texture.specs.declared.rows.BlockRow.{BlockRow}
use Rattle.texture.specs.declared.rows.Position.{Position}
use Rattle.texture.specs.Shapes.{Shape, IsValid, rows_of, image_count}
use Rattle.texture.specs.Rows.{row_at, row_start, image_rows, level_rows}

-- the rows of n levels from a row of an image of the first of them on
unfoldable pub rows_from : Shape → ℕ → ℕ → ℕ → ℕ → List BlockRow
rows_from shape zero level image row = []
rows_from shape (suc n) level image row =
    map (row_at shape level image) (range_with_len row (rows_of shape level - row))
    ++ (flat_map (image_rows shape level)
    (range_with_len (image + 1) (image_count shape - (image + 1)))
    ++ flat_map (level_rows shape) (range_with_len (level + 1) n))

-- those from a position on
abbrev pub left_from : Shape → Position → List BlockRow
left_from shape at = rows_from shape (shape.levels - at.level) at.level at.image at.row

-- the position of a row of the texture, or the position after all rows
pub record IsPosition (shape : Shape) (at : Position) : Type 0 where
  pub valid : IsValid shape
  pub level_most : at.level ≤ shape.levels
  pub image_in : at.image < image_count shape
  pub row_in : at.level < shape.levels → at.row < rows_of shape at.level
  pub first_is : at.level < shape.levels → at.first ≡ row_start shape at.level at.image at.row
