-- Which blocks of a file a part has: the blocks are counted in file order, by level, element, face,
-- row and column.
use Rattle.std.specs.Prelude.{◌<◌, ◌≤◌, ℕ, ◌+◌, ◌-◌, ◌*◌, ◌/◌}
use Rattle.texture.specs.declared.shape.Shape.{Shape}
use Rattle.texture.specs.Shapes.{all_blocks}

-- the most parts that a file is cut into
abbrev pub most_parts : ℕ
most_parts = 65536

-- the first block of a part, by its place among this number of parts; a part after the last would
-- begin at the end of the file
unfoldable pub part_start : Shape → ℕ → ℕ → ℕ
part_start shape place count = place * all_blocks shape / count

-- the blocks of a part
unfoldable pub part_count : Shape → ℕ → ℕ → ℕ
part_count shape place count = part_start shape (place + 1) count - part_start shape place count

-- a place among this number of parts
pub record IsPlace (place count : ℕ) : Type 0 where
  pub below : place < count
  pub most : count ≤ most_parts
