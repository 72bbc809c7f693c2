-- The sides of an image in texels, and the blocks that cover it.
use Rattle.std.specs.Prelude.{◌≤◌, ℕ, ◌*◌}
use Rattle.astc_model.specs.Limits.{most_side, most_texels}
use Rattle.astc_model.specs.FootprintNames.{sides_of}
use Rattle.astc_model.specs.declared.footprint_name.FootprintName.{FootprintName}
use Rattle.texture.specs.Extents.{covering}

-- the sides that an image may have
pub record AreFileSides (width height : ℕ) : Type 0 where
  pub width_some : 1 ≤ width
  pub width_most : width ≤ most_side
  pub height_some : 1 ≤ height
  pub height_most : height ≤ most_side
  pub not_too_large : width * height ≤ most_texels

-- rows times columns of blocks
unfoldable pub block_count : FootprintName → ℕ → ℕ → ℕ
block_count name width height = covering height (sides_of name).1 * covering width (sides_of name).0
