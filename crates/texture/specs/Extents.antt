-- The sides, elements, faces and levels that a texture may have.
use Rattle.std.specs.Prelude.{◌≡◌, ◌≤◌, ◌⊎◌, ℕ, ◌+◌, ◌-◌, ◌*◌, ◌/◌, max}
use Rattle.astc_model.specs.Chains.{full_levels_of}
use Rattle.astc_model.specs.Limits.{most_side, most_texels}
pub use Rattle.texture.specs.declared.extent.Extent.{Extent}

-- the most array elements
abbrev pub most_elements : ℕ
most_elements = 2048

-- the images of each level: a face each of every element
abbrev pub images_of : Extent → ℕ
images_of extent = max 1 extent.elements * extent.faces

-- what a texture may have
pub record IsExtent (extent : Extent) : Type 0 where
  pub width_some : 1 ≤ extent.width
  pub width_most : extent.width ≤ most_side
  pub height_some : 1 ≤ extent.height
  pub height_most : extent.height ≤ most_side
  pub elements_most : extent.elements ≤ most_elements
  pub faces_known : (extent.faces ≡ 1) ⊎ (extent.faces ≡ 6)
  pub square : extent.faces ≡ 6 → extent.width ≡ extent.height
  pub levels_some : 1 ≤ extent.levels
  pub levels_few : extent.levels ≤ 14
  pub levels_most : extent.levels ≤ full_levels_of extent.width extent.height
  pub not_too_large : extent.width * extent.height * images_of extent ≤ most_texels

-- how many units of this size cover a length
abbrev pub covering : ℕ → ℕ → ℕ
covering length unit = (length + unit - 1) / unit
