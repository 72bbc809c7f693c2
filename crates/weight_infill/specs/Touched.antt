-- The texels whose weight depends on a given grid point (Khronos Data Format Specification, ASTC,
-- "Weight Infill").
use Rattle.std.specs.Prelude.{ℕ, ◌+◌, ◌-◌, ◌*◌, ◌/◌, ◌%◌, ◌<◌, ◌==◌, nat_lt, Bool, if◌then◌else◌, List, map, sum_by, slice_index_or}
use Rattle.std.specs.List.{filter, range_with_len}
use Rattle.astc_model.specs.Infill.{factors, grid_position, last_factor}
use Rattle.weight_infill.specs.declared.touching.Share.{Share}
use Rattle.weight_infill.specs.declared.touching.Share.TheVariants.{Apart, Near, Far}

-- the factor of a grid point in a list of points with their factors; 0 if the point is not in the
-- list
abbrev pub factor_among : ℕ → List (ℕ × ℕ) → ℕ
factor_among point pairs = sum_by (λ pair. (if pair.0 == point then pair.1 else 0)) pairs

-- the factor of a point of a grid of n by m points in the weight of the texel (x, y) of a block of
-- w by h texels
unfoldable pub factor_of : (w h n m point x y : ℕ) → ℕ
factor_of w h n m point x y = factor_among point (factors w h n m x y)

-- whether the weight of a texel, given by its column and row, depends on the point
abbrev pub is_touched : (w h n m point : ℕ) → ℕ × ℕ → Bool
is_touched w h n m point texel = nat_lt 0 (factor_of w h n m point texel.0 texel.1)

-- the texels among the first k, in rows from the top, whose weight depends on the point
unfoldable pub touched_below : (w h n m point k : ℕ) → List (ℕ × ℕ)
touched_below w h n m point k = filter (is_touched w h n m point)
    (map (λ p. (p % w, p / w)) (range_with_len 0 k))

-- the texels of a block whose weight depends on the point
abbrev pub touched : (w h n m point : ℕ) → List (ℕ × ℕ)
touched w h n m point = touched_below w h n m point (w * h)

-- ---- the texels that depend on a grid point, computed by columns and rows

-- the position of a texel along a side relative to a column or row of grid points: Near, between
-- this one and the next; Far, between the previous one and this; both with the sixteenths after the
-- first of the two; or Apart
abbrev pub share_of : (side points point texel : ℕ) → Share
share_of side points point texel =
    let g = grid_position side points texel in
    if g / 16 == point then Near (g % 16) else (if g / 16 + 1 == point then Far (g % 16) else Apart)

-- the factor of a point if the texel is fs sixteenths after the point's column
abbrev pub near_factor : ℕ → Share → ℕ
near_factor fs Apart = 0
near_factor fs (Near ft) = 16 + last_factor fs ft - fs - ft
near_factor fs (Far ft) = ft - last_factor fs ft

-- the factor of a point if the texel is fs sixteenths after the previous column
abbrev pub far_factor : ℕ → Share → ℕ
far_factor fs Apart = 0
far_factor fs (Near ft) = fs - last_factor fs ft
far_factor fs (Far ft) = last_factor fs ft

-- the factor of a point, from the position of the texel relative to the point's column and row
abbrev pub factor_between : Share → Share → ℕ
factor_between Apart down = 0
factor_between (Near fs) down = near_factor fs down
factor_between (Far fs) down = far_factor fs down

-- the distance of a share is below 16 sixteenths
abbrev pub IsOfSixteenths : Share → Type 0
IsOfSixteenths Apart = Unit {0}
IsOfSixteenths (Near f) = f < 16
IsOfSixteenths (Far f) = f < 16

-- the texels among the first k of row y whose weight depends on the point; `across` has the
-- position of each texel relative to the point's column, `down` that of the row
unfoldable pub row_touched : List Share → Share → (y k : ℕ) → List (ℕ × ℕ)
row_touched across down y k =
    filter (λ texel. nat_lt 0 (factor_between (slice_index_or across texel.0 Apart) down))
    (map (λ x. (x, y)) (range_with_len 0 k))
