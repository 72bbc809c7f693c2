-- The points of the weight grid around each place inside.
use Rattle.std.specs.Prelude.{◌≡◌, ℕ, ◌*◌, ◌/◌, ◌%◌, ◌<◌, ◌≤◌, if◌then◌else◌, List, Option, length, slice_index, slice_index_or}
use Rattle.std.specs.List.{All}
use Rattle.astc_model.specs.Places.{Texel}
use Rattle.astc_model.specs.Infill.{factors}
use Rattle.astc_model.specs.declared.mode.Mode.{Mode}
use Rattle.texel_error.specs.Counting.{is_inside}
use Rattle.error_tables.specs.declared.around.Around.{Around}

-- a corner of a place with its factor
abbrev pub corner_at : (w h : ℕ) → Mode → (corner p : ℕ) → ℕ × ℕ
corner_at w h mode corner p = slice_index_or (factors w h mode.across mode.down (p % w) (p / w))
    corner (0, 0)

-- a factor that counts inside alone
abbrev pub factor_inside : List (Option Texel) → (p factor : ℕ) → ℕ
factor_inside places p factor = if is_inside places p then factor else 0

-- the first n places have this corner, with its factor inside
pub record IsCorner (w h : ℕ) (mode : Mode) (places : List (Option Texel)) (corner n : ℕ)
    (points factors : List ℕ) : Type 0 where
  pub all_points : length points ≡ 144
  pub all_factors : length factors ≡ 144
  pub points_are : (p : ℕ) → p < n → slice_index points p ≡ (corner_at w h mode corner p).0
  pub factors_are : (p : ℕ) → p < n → slice_index factors p
      ≡ factor_inside places p (corner_at w h mode corner p).1
  pub small : All (λ factor. factor ≤ 16) factors

-- all places have their four corners, with factors that are 0 outside the image
pub record AreCorners (w h : ℕ) (mode : Mode) (places : List (Option Texel))
    (around : Around) : Type 0 where
  pub first : IsCorner w h mode places 0 (w * h) around.first.points around.first.factors
  pub second : IsCorner w h mode places 1 (w * h) around.second.points around.second.factors
  pub third : IsCorner w h mode places 2 (w * h) around.third.points around.third.factors
  pub fourth : IsCorner w h mode places 3 (w * h) around.fourth.points around.fourth.factors
