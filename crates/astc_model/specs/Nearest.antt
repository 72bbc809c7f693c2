-- Quantization: the integer of a level whose value is closest to a number.
use Rattle.std.specs.Prelude.{ℕ, ◌<◌, ◌≤◌, cond, nat_lt}
use Rattle.std.specs.Int.{abs_diff}
use Rattle.std.proofs.Common.{zero, suc}
use Rattle.astc_model.specs.ColourValues.{colour_value}
use Rattle.astc_model.specs.Levels.{count_of}
use Rattle.astc_model.specs.WeightValues.{weight_value}
use Rattle.astc_model.specs.declared.level.Level.{Level}

-- i if its value is closer to v than that of the best integer before, else that integer
abbrev pub nearer : (ℕ → ℕ) → ℕ → ℕ → ℕ → ℕ
nearer value v i best = cond (nat_lt (abs_diff (value i) v) (abs_diff (value best) v)) i best

-- of the integers below n, the one whose value is closest to v; at a tie the least
abbrev pub nearest_below : (ℕ → ℕ) → ℕ → ℕ → ℕ
nearest_below value v zero = 0
nearest_below value v (suc n) = nearer value v n (nearest_below value v n)

-- i is below count, and its value is closest to v; at a tie i is the least such integer
pub record IsNearest (value : ℕ → ℕ) (count v i : ℕ) : Type 0 where
  pub within : i < count
  pub nearest : (j : ℕ) → j < count → abs_diff (value i) v ≤ abs_diff (value j) v
  pub first : (j : ℕ) → j < i → abs_diff (value i) v < abs_diff (value j) v

-- the integer of a level whose colour value, or whose weight, is closest to v
unfoldable pub nearest_colour : Level → ℕ → ℕ
nearest_colour level v = nearest_below (colour_value level) v (count_of level)

unfoldable pub nearest_weight : Level → ℕ → ℕ
nearest_weight level v = nearest_below (weight_value level) v (count_of level)
