-- The defining property of the place that is closest to a grid point.
use Rattle.std.specs.Prelude.{ℕ, ◌<◌, ◌≤◌, ◌*◌, ◌%◌, ◌/◌, List, Option, Some, None, slice_index_or}
use Rattle.std.specs.Option.{IsSome, IsNone}
use Rattle.std.specs.List.{All}
use Rattle.astc_model.specs.Places.{Texel}
use Rattle.astc_model.specs.Targets.{distance}

-- the squared distance of place p of a block of w by h texels from point k of a grid of n by m
abbrev pub distance_from_point : (w h n m k p : ℕ) → ℕ
distance_from_point w h n m k p = distance w h n m (k % n) (k / n) (p % w) (p / w)

-- place p is inside the image
abbrev pub IsInside : List (Option Texel) → ℕ → Type 0
IsInside places p = IsSome (slice_index_or places p None)

-- of the first `count` places, p is the closest inside place, and the first such one
pub record IsNearestInside (far : ℕ → ℕ) (places : List (Option Texel)) (count p : ℕ) : Type 0 where
  pub within : p < count
  pub inside : IsInside places p
  pub nearest : (q : ℕ) → q < count → IsInside places q → far p ≤ far q
  pub first : (q : ℕ) → q < p → IsInside places q → far p < far q

-- the place is the one from which point k of a grid of n by m takes its weight: the closest inside
-- place, or None if no place is inside
abbrev pub TakesNearest : (w h n m : ℕ) → List (Option Texel) → ℕ → Option ℕ → Type 0
TakesNearest w h n m places k (Some p) = IsNearestInside (distance_from_point w h n m k) places
    (w * h) p
TakesNearest w h n m places k None = All IsNone places
