-- Going through the rows of blocks of a texture.
use Rattle.std.specs.Prelude.{◌≡◌, ℕ, ◌+◌, ◌==◌, ◌&&◌, if◌then◌else◌, List, [], ◌∷◌}
use Rattle.texture.specs.Shapes.{Shape}
use Rattle.texture.specs.Rows.{BlockRow, IsRowOf}

-- 1 for the first row of a level
abbrev pub level_begun : BlockRow → ℕ
level_begun row = if row.image == 0 && row.row == 0 then 1 else 0

-- how many blocks rows have, and below how many of the rows begin a level
abbrev pub blocks_in : List BlockRow → ℕ
blocks_in [] = 0
blocks_in (row ∷ rows) = row.columns + blocks_in rows

abbrev pub levels_in : List BlockRow → ℕ
levels_in [] = 0
levels_in (row ∷ rows) = level_begun row + levels_in rows

-- a row of a texture, after this number of blocks and of levels that have begun
pub record IsBehind (shape : Shape) (blocks levels : ℕ) (row : BlockRow) : Type 0 where
  pub there : IsRowOf shape row
  pub first_is : row.first ≡ blocks
  pub level_is : levels + level_begun row ≡ row.level + 1

-- rows of a texture that follow each other: from one number of blocks and levels up to another
abbrev pub Follow : Shape → ℕ → ℕ → List BlockRow → ℕ → ℕ → Type 0
Follow shape blocks levels [] blocks_now levels_now = (blocks ≡ blocks_now) × (levels ≡ levels_now)
Follow shape blocks levels (row ∷ rows) blocks_now levels_now =
    IsBehind shape blocks levels row × Follow shape (blocks + row.columns)
    (levels + level_begun row) rows blocks_now levels_now
