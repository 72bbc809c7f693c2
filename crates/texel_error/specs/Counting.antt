-- Steps, the evaluations of texels that searches count.
use Rattle.std.specs.Prelude.{ℕ, ◌+◌, ◌≤◌, Bool, if◌then◌else◌, List, Option, None, slice_index_or, is_some}
use Rattle.astc_model.specs.Sums.{sum_to}
use Rattle.astc_model.specs.Places.{Texel}

-- the counter increased from `before` to `after` by at most n
pub record TakesAtMost (before after n : ℕ) : Type 0 where
  pub least : before ≤ after
  pub most : after ≤ before + n

-- the sum of f over the numbers below n for which `on` is true
abbrev pub sum_on : (ℕ → Bool) → (ℕ → ℕ) → ℕ → ℕ
sum_on on f n = sum_to (λ p. (if on p then f p else 0)) n

-- the number of numbers below n for which `on` is true
abbrev pub count_on : (ℕ → Bool) → ℕ → ℕ
count_on on n = sum_on on (λ p. 1) n

-- whether place p lies inside the image
abbrev pub is_inside : List (Option Texel) → ℕ → Bool
is_inside places p = is_some (slice_index_or places p None)
