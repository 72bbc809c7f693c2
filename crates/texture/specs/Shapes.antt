-- A texture of ASTC blocks, and how many of them it has.
use Rattle.std.specs.Prelude.{ℕ, ◌*◌, max}
use Rattle.astc_model.specs.Sums.{sum_to}
use Rattle.astc_model.specs.Chains.{side_at_level}
use Rattle.astc_model.specs.FootprintNames.{sides_of}
use Rattle.texture.specs.Extents.{Extent, IsExtent, covering}
pub use Rattle.texture.specs.declared.shape.Shape.{Shape}

-- a shape without its format
abbrev pub extent : Shape → Extent
extent shape = record {
  width = shape.width;
  height = shape.height;
  elements = shape.elements;
  faces = shape.faces;
  levels = shape.levels;
}

-- what a texture may have
abbrev pub IsValid : Shape → Type 0
IsValid shape = IsExtent (extent shape)

-- the columns of blocks of a level
abbrev pub columns_of : Shape → ℕ → ℕ
columns_of shape level = covering (side_at_level shape.width level) (sides_of shape.name).0

-- the rows of blocks of an image of a level
abbrev pub rows_of : Shape → ℕ → ℕ
rows_of shape level = covering (side_at_level shape.height level) (sides_of shape.name).1

-- the images of each level: a face each of every element
abbrev pub image_count : Shape → ℕ
image_count shape = max 1 shape.elements * shape.faces

-- the blocks of an image of a level
abbrev pub image_blocks : Shape → ℕ → ℕ
image_blocks shape level = rows_of shape level * columns_of shape level

-- the blocks of a level
unfoldable pub level_blocks : Shape → ℕ → ℕ
level_blocks shape level = image_count shape * image_blocks shape level

-- the blocks of all levels
abbrev pub all_blocks : Shape → ℕ
all_blocks shape = sum_to (level_blocks shape) shape.levels

-- no texture has more blocks: 14 levels of 33,554,432 texels
abbrev pub most_blocks : ℕ
most_blocks = 469762048
