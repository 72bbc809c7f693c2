-- The texels that a decoder shows for any 16 bytes, and their error against a source.
use Rattle.std.specs.Prelude.{ℕ, ◌*◌, ◌/◌, ◌%◌, List, Option, None, Result, Ok, Err, slice_index_or}
use Rattle.astc_model.specs.Sums.{sum_to}
use Rattle.astc_model.specs.Places.{Texel}
use Rattle.astc_model.specs.Weights.{Weighting}
use Rattle.astc_model.specs.declared.flavour.Flavour.{Flavour}
use Rattle.astc_model.specs.declared.block.Block.{Block}
use Rattle.astc_model.specs.declared.block.BlockFault.{BlockFault}
use Rattle.astc_model.specs.CodedTexels.{error_colour}
use Rattle.astc_model.specs.Errors.{texel, place_error}
use Rattle.astc_model.specs.Reading.{read}

-- the texel of a decoded block; the error colour for a fault
abbrev pub texel_read : ℕ → ℕ → Flavour → Result Block BlockFault → ℕ → ℕ → Texel
texel_read w h flavour (Ok block) x y = texel w h flavour block x y
texel_read w h flavour (Err fault) x y = error_colour

-- the texel, 8 bits per channel, that a decoder shows for these 16 bytes at column x, row y
unfoldable pub shown : ℕ → ℕ → Flavour → List ℕ → ℕ → ℕ → Texel
shown w h flavour bytes x y = texel_read w h flavour (read w h bytes) x y

-- the error of 16 bytes: the sum of the errors of all places
unfoldable pub error_shown : ℕ → ℕ → Flavour → Weighting → List ℕ → List (Option Texel) → ℕ
error_shown w h flavour weights bytes places =
    sum_to (λ p. place_error weights (shown w h flavour bytes (p % w) (p / w))
    (slice_index_or places p None)) (w * h)
