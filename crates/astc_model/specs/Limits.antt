-- The limits of inputs and packed textures.
use Rattle.std.specs.Prelude.{ℕ}

-- the greatest width or height of an image
abbrev pub most_side : ℕ
most_side = 8192

-- the greatest number of texels over all images of level 0
abbrev pub most_texels : ℕ
most_texels = 33554432

-- the greatest error of a texel: four channels with the weight 15 that differ by 255
abbrev pub most_texel_error : ℕ
most_texel_error = 3901500

-- the greatest error of a block: 144 texels with the greatest error
abbrev pub most_block_error : ℕ
most_block_error = 561816000
