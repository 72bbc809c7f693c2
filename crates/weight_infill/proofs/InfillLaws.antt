-- Laws of the weight infill: points outside the grid have the factor 0, the indices of the four
-- points are within the grid, and the factors of a texel have the sum 16.
use Rattle.std.proofs.Common.{◌≡◌, ◌≢◌, ℕ, ◌+◌, ◌-◌, ◌*◌, ◌/◌, ◌%◌, ◌<◌, ◌≤◌, ◌==◌, Bool, true, false, IsTrue, if◌then◌else◌, nat_le, List, length, slice_index, refl, inl, inr, arith}
use Rattle.std.specs.List.{All, sum_by}
use Rattle.std.proofs.lemmas.Bool.{cases_lt, leb-true, eqb-false}
use Rattle.std.proofs.lemmas.List.Elements.{All-from_recursion, All-map}
use Rattle.std.proofs.lemmas.Nat.{mul-le, mul-add-lt}
use Rattle.std.proofs.lemmas.List.Sums.{sum_by-le-sum_by}
use Rattle.std.proofs.Math.ListN.{get_or-eq_default}
use Rattle.astc_model.specs.Infill.{Corner, IsZeroOutside, corners, corners_at, factors, grid_position, infill, last_factor, placed}
use Rattle.astc_model.specs.Sums.{all_below}
use Rattle.astc_model.proofs.SumLaws.{every_below}

-- whether the position of a texel is at most that of the last grid point of the side
abbrev within_side : ℕ → ℕ → ℕ → Bool
unfolding grid_position
within_side side points texel = nat_le (grid_position side points texel) (16 * (points - 1))

abbrev within_sides : ℕ → Bool
within_sides side = all_below (λ points. all_below (within_side side points) side) (side + 1)

within_all_sides : IsTrue (all_below within_sides 13)
unfolding grid_position
within_all_sides = refl

-- the position of a texel is at most that of the last grid point of the side, for sides of at most
-- 12
pub grid_position-le : (side points texel : ℕ) → side ≤ 12 → points ≤ side → texel < side
    → grid_position side points texel ≤ 16 * (points - 1)
unfolding grid_position
grid_position-le side points texel short few inside =
    let of_side : IsTrue (within_sides side) = every_below within_sides 13 side within_all_sides
    (omega arith) in
    let of_points : IsTrue (all_below (within_side side points) side) =
    every_below (λ k. all_below (within_side side k) side) (side + 1) points of_side
    (omega arith) in
    leb-true (grid_position side points texel) (16 * (points - 1))
    (every_below (within_side side points) side texel of_points inside)

-- the factor w11 is at most fs and at most ft, and at least their sum minus 16
pub record IsLastFactor (fs ft : ℕ) : Type 0 where
  pub across : last_factor fs ft ≤ fs
  pub down : last_factor fs ft ≤ ft
  pub both : fs + ft ≤ 16 + last_factor fs ft

-- an inequality that a test finds true for all pairs of sixteenths
of_sixteenths : (low high : ℕ → ℕ → ℕ) (fs ft : ℕ)
    → IsTrue (all_below (λ j. all_below (λ k. nat_le (low j k) (high j k)) 16) 16) → fs < 16
    → ft < 16 → low fs ft ≤ high fs ft
of_sixteenths low high fs ft all across down =
    leb-true (low fs ft) (high fs ft) (every_below (λ k. nat_le (low fs k) (high fs k)) 16 ft
    (every_below (λ j. all_below (λ k. nat_le (low j k) (high j k)) 16) 16 fs all across)
    down)

pub last_factor-is : (fs ft : ℕ) → fs < 16 → ft < 16 → IsLastFactor fs ft
last_factor-is fs ft across down = record {
  across = of_sixteenths last_factor (λ j k. j) fs ft refl across down;
  down = of_sixteenths last_factor (λ j k. k) fs ft refl across down;
  both = of_sixteenths (λ j k. j + k) (λ j k. 16 + last_factor j k) fs ft refl across down;
}

-- if the texel is at the last column or row of points, the points after it have the factor 0
corners_at-outside : (n m js jt fs ft : ℕ) → js < n → jt < m → (n ≤ js + 1 → fs ≡ 0)
    → (m ≤ jt + 1 → ft ≡ 0) → All (IsZeroOutside n m) (corners_at js jt fs ft)
corners_at-outside n m js jt fs ft column row last_column last_row =
    All-from_recursion (IsZeroOutside n m) (corners_at js jt fs ft) (
      record {
        beyond_columns = λ out. absurd (omega arith);
        beyond_rows = λ out.
            absurd (omega arith);
      },
      (
        record {
          beyond_columns = λ out. let none : fs ≡ 0 = last_column out in omega arith;
          beyond_rows = λ out. absurd (omega arith);
        },
        (
          record {
            beyond_columns = λ out. absurd (omega arith);
            beyond_rows = λ out. let none : ft
                ≡ 0 = last_row out in omega arith;
          },
          (
            record {
              beyond_columns = λ out. rw (last_column out) (omega arith);
              beyond_rows = λ out.
                  rw (last_row out) (omega arith);
            },
            tt,
          ),
        ),
      ),
    )

-- the ranges of a grid that fits its block, and of a texel of the block
pub record IsTexel (w h n m s t : ℕ) : Type 0 where
  pub width : w ≤ 12
  pub height : h ≤ 12
  pub some_columns : 2 ≤ n
  pub some_rows : 2 ≤ m
  pub columns : n ≤ w
  pub rows : m ≤ h
  pub across : s < w
  pub down : t < h

-- of the four points, those outside the grid have the factor 0
pub corners-outside : (w h n m s t : ℕ) → IsTexel w h n m s t
    → All (IsZeroOutside n m) (corners w h n m s t)
unfolding corners
corners-outside w h n m s t texel =
    let gs : ℕ = grid_position w n s in
    let gt : ℕ = grid_position h m t in
    let right : gs ≤ 16 * (n - 1) = grid_position-le w n s texel.width texel.columns texel.across in
    let low : gt ≤ 16 * (m - 1) = grid_position-le h m t texel.height texel.rows texel.down in
    corners_at-outside n m (gs / 16) (gt / 16) (gs % 16) (gt % 16) (omega arith) (omega arith)
    (λ last. omega arith) (λ last. omega arith)

-- the index of a point is within the grid
placed-inside : (n m : ℕ) (corner : Corner) (b : Bool) → (corner.factor == 0) ≡ b → 0 < n → 0 < m
    → IsZeroOutside n m corner → (if b then 0 else corner.row * n + corner.column) < n * m
placed-inside n m corner true none columns rows outside =
    omega (arith, mul-add-lt 0 n 0 m rows columns)
placed-inside n m corner false some columns rows outside =
    let factor : corner.factor ≢ 0 = eqb-false corner.factor 0 some in
    let row : corner.row < m = elim (cases_lt corner.row m) [
      | inl inside ↦ inside
      | inr out ↦ absurd (factor (outside.beyond_rows out))
    ] in
    let column : corner.column < n = elim (cases_lt corner.column n) [
      | inl inside ↦ inside
      | inr out ↦ absurd (factor (outside.beyond_columns out))
    ] in
    mul-add-lt corner.row n corner.column m row column

pub factors-inside : (w h n m s t : ℕ) → IsTexel w h n m s t → All (λ point. point.0 < n * m)
    (factors w h n m s t)
unfolding factors
factors-inside w h n m s t texel =
    All-map (λ point. point.0 < n * m) (placed n) (corners w h n m s t)
    (λ k d lt. placed-inside n m _ _ refl (omega arith) (omega arith)
    (corners-outside w h n m s t texel k d lt))

-- the factors of a texel have the sum 16
pub factors-total : (w h n m s t : ℕ) → sum_by (λ point. point.1) (factors w h n m s t) ≡ 16
unfolding factors corners
factors-total w h n m s t =
    let fs : ℕ = grid_position w n s % 16 in
    let ft : ℕ = grid_position h m t % 16 in
    let last : IsLastFactor fs ft = last_factor-is fs ft (omega arith) (omega arith) in
    omega (arith, last.across, last.down, last.both)

pub factors-small : (w h n m s t : ℕ) → All (λ point. point.1 ≤ 16) (factors w h n m s t)
unfolding factors corners
factors-small w h n m s t =
    let fs : ℕ = grid_position w n s % 16 in
    let ft : ℕ = grid_position h m t % 16 in
    let last : IsLastFactor fs ft = last_factor-is fs ft (omega arith) (omega arith) in
    All-from_recursion (λ point. point.1 ≤ 16) (factors w h n m s t)
    (omega (arith, last.across), (omega arith, (omega arith, (omega (arith, last.across), tt))))

-- an entry of a list of weights, or 0 past its end, is at most 64
index_le : (points : List ℕ) (place : ℕ) → All (λ weight. weight ≤ 64) points
    → slice_index points place ≤ 64
index_le points place small =
    elim (cases_lt place (length points)) [
      | inl inside ↦ small place 0 inside
      | inr out ↦ let none : slice_index points place ≡ 0 = get_or-eq_default points 0 out in
          omega arith
    ]

-- points of at most 64 give a weight of at most 64
pub infill-le : (w h n m s t : ℕ) (points : List ℕ) → All (λ weight. weight ≤ 64) points
    → infill w h n m s t points ≤ 64
unfolding infill factors corners
infill-le w h n m s t points small =
    let fs : ℕ = grid_position w n s % 16 in
    let ft : ℕ = grid_position h m t % 16 in
    let last : IsLastFactor fs ft = last_factor-is fs ft (omega arith) (omega arith) in
    let share : ℕ × ℕ → ℕ = λ point. slice_index points point.0 * point.1 in
    let most : ℕ × ℕ → ℕ = λ point. 64 * point.1 in
    let each : (point : ℕ × ℕ) → share point ≤ most point = λ point.
    mul-le (slice_index points point.0) point.1 64 point.1 (index_le points point.0 small)
    (omega arith) in
    let sum : sum_by share (factors w h n m s t) ≤ sum_by most (factors w h n m s t) =
    sum_by-le-sum_by share most (factors w h n m s t) each in
    omega (arith, sum, last.across, last.down, last.both)
