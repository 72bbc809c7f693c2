-- The place closest to each grid point in a block whose places are all inside the image: the
-- closest column and the closest row can be found separately.
use Rattle.std.specs.Prelude.{ℕ, ◌≤◌, ◌+◌, ◌-◌, ◌*◌, ◌/◌, ◌%◌, nat_lt, if◌then◌else◌, List, map, Option, Some}
use Rattle.std.specs.List.{range_with_len}
use Rattle.std.proofs.Common.{zero, suc}
use Rattle.astc_model.specs.Errors.{squared_difference}

-- the size of a grid of at most 64 points
pub record IsGridSize (columns rows : ℕ) : Type 0 where
  pub some_columns : 1 ≤ columns
  pub few_columns : columns ≤ 12
  pub some_rows : 1 ≤ rows
  pub few_rows : rows ≤ 12
  pub few_points : columns * rows ≤ 64

-- the number of places along a side of a block, of grid points along it, and of grid points along
-- the other side
pub record AreSides (side points others : ℕ) : Type 0 where
  pub some_places : 1 ≤ side
  pub few_places : side ≤ 12
  pub some_points : 1 ≤ points
  pub few_points : points ≤ 12
  pub some_others : 1 ≤ others
  pub few_others : others ≤ 12

-- of the numbers below n, the first with the least f
abbrev pub first_least : (ℕ → ℕ) → ℕ → ℕ
first_least f zero = 0
first_least f (suc n) = if nat_lt (f n) (f (first_least f n)) then n else first_least f n

-- the squared distance, along one side, of place x from grid point `at`; `points` and `others` are
-- the numbers of grid points along this and the other side
unfoldable pub side_distance : (side points others at x : ℕ) → ℕ
side_distance side points others at x = squared_difference (x * (points - 1))
    (at * (side - 1)) * ((others - 1) * (others - 1))

-- the place along a side that is closest to a grid point; the first one at a tie
unfoldable pub nearest_on_side : (side points others at : ℕ) → ℕ
nearest_on_side side points others at = first_least (side_distance side points others at) side

-- the closest place along a side for each grid point
unfoldable pub side_places : (side points others : ℕ) → List ℕ
side_places side points others = map (nearest_on_side side points others) (range_with_len 0 points)

-- the place closest to point k of a grid of n by m in a block of w by h texels
unfoldable pub place_of_sides : (w h n m k : ℕ) → ℕ
place_of_sides w h n m k = nearest_on_side h m n (k / n) * w + nearest_on_side w n m (k % n)

-- the place closest to each grid point, in rows from the top
unfoldable pub grid_of_sides : (w h n m : ℕ) → List (Option ℕ)
grid_of_sides w h n m = map (λ k. Some (place_of_sides w h n m k)) (range_with_len 0 (n * m))
