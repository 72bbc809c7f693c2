-- Rows of blocks, as they are stored.
use Rattle.std.specs.Prelude.{ℕ, ◌==◌, ◌&&◌, if◌then◌else◌, List, [], ◌∷◌, ◌++◌, take, drop}
use Rattle.std.specs.List.{flat_map}
use Rattle.std.specs.Int.{w32, to_le_bytes}
use Rattle.texture.specs.declared.shape.Shape.{Shape}
use Rattle.texture.specs.declared.rows.BlockRow.{BlockRow}
use Rattle.ktx_file.specs.Framing.{level_size_of}

-- the bytes before a row: the level's size, if the row is the first of its level
abbrev pub level_front : Shape → BlockRow → List ℕ
level_front shape row = if row.image == 0 && row.row == 0 then to_le_bytes w32
    (level_size_of shape row.level) else []

-- a row whose blocks have these bytes
abbrev pub row_bytes : Shape → BlockRow → List ℕ → List ℕ
row_bytes shape row bytes = level_front shape row ++ bytes

-- rows, one after another, each with as many of the blocks as it has
abbrev pub rows_bytes : Shape → List BlockRow → List (List ℕ) → List ℕ
rows_bytes shape [] blocks = []
rows_bytes shape (row ∷ rows) blocks =
    row_bytes shape row (flat_map (λ block. block) (take row.columns blocks))
    ++ rows_bytes shape rows (drop row.columns blocks)
