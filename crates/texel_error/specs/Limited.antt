-- Errors that are computed only up to a limit.
use Rattle.std.specs.Prelude.{ℕ, ◌*◌, ◌/◌, ◌%◌, ◌&&◌, nat_lt, if◌then◌else◌, List, Option, None, Some, slice_index_or}
use Rattle.astc_model.specs.Sums.{sum_to}
use Rattle.astc_model.specs.Places.{Texel}
use Rattle.astc_model.specs.Weights.{Weighting}
use Rattle.astc_model.specs.declared.flavour.Flavour.{Flavour}
use Rattle.astc_model.specs.declared.block.Block.{Block}
use Rattle.astc_model.specs.Errors.{texel, place_error}
use Rattle.texel_error.specs.Counting.{count_on, is_inside}

-- the number if it is below the limit, else None
abbrev pub under : ℕ → ℕ → Option ℕ
under limit n = if nat_lt n limit then Some n else None

-- the number of inside places among the first n before which the sum of f is under the limit: the
-- number of evaluations until the sum reaches the limit
unfoldable pub count_under : (ℕ → ℕ) → List (Option Texel) → ℕ → ℕ → ℕ
count_under f places limit n = count_on (λ p. is_inside places p && nat_lt (sum_to f p) limit) n

-- the number of texels of a block that are evaluated until the sum of their errors reaches the
-- limit
abbrev pub steps_under : ℕ → ℕ → Flavour → Weighting → Block → List (Option Texel) → ℕ → ℕ
steps_under w h flavour weights block places limit =
    count_under (λ p. place_error weights (texel w h flavour block (p % w) (p / w))
    (slice_index_or places p None)) places limit (w * h)
