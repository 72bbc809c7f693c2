-- The texels of a legal block, and its error against a source (Khronos Data Format Specification,
-- ASTC, "Weight Application" and "Void-Extent Blocks").
use Rattle.std.specs.Prelude.{ℕ, ◌+◌, ◌-◌, ◌*◌, ◌/◌, ◌%◌, List, map, Option, None, Some, slice_index, slice_index_or}
use Rattle.astc_model.specs.Sums.{sum_to}
use Rattle.astc_model.specs.Places.{Texel, channel}
use Rattle.astc_model.specs.Weights.{Weighting}
use Rattle.astc_model.specs.FootprintNames.{Flavour}
use Rattle.astc_model.specs.Blocks.{Block}
use Rattle.astc_model.specs.CodedTexels.{coded_texel}
use Rattle.astc_model.specs.declared.block.Block.TheVariants.{Constant, Coded}

-- the texel, 8 bits per channel, of a legal block at column x, row y: the high bytes of its 16-bit
-- channels
abbrev pub texel : ℕ → ℕ → Flavour → Block → ℕ → ℕ → Texel
texel w h flavour (Constant constant) x y = map (λ value. value / 256) constant.rgba
texel w h flavour (Coded coded) x y = coded_texel w h flavour coded x y

-- the square of the difference of two numbers
abbrev pub squared_difference : ℕ → ℕ → ℕ
squared_difference a b = (a - b) * (a - b) + (b - a) * (b - a)

-- the error of a texel: the squared differences of the four channels, each times its weight
abbrev pub texel_error : Weighting → Texel → Texel → ℕ
texel_error weights shown wanted =
    sum_to (λ c. slice_index weights c * squared_difference (channel c shown) (channel c wanted)) 4

-- the error of a place; 0 outside the image
abbrev pub place_error : Weighting → Texel → Option Texel → ℕ
place_error weights shown None = 0
place_error weights shown (Some wanted) = texel_error weights shown wanted

-- the error of a block: the sum of the errors of all its places
unfoldable pub error : ℕ → ℕ → Flavour → Weighting → Block → List (Option Texel) → ℕ
error w h flavour weights block places =
    sum_to (λ p. place_error weights (texel w h flavour block (p % w) (p / w))
    (slice_index_or places p None)) (w * h)
