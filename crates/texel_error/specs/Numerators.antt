-- The weight of a texel before it is rounded, in sixteenths
-- (Khronos Data Format Specification, ASTC, "Weight Infill" and "Dual-Plane Mode").
use Rattle.std.specs.Prelude.{ℕ, ◌+◌, ◌*◌, ◌/◌, ◌==◌, if◌then◌else◌, List, slice_index, sum_by}
use Rattle.astc_model.specs.Infill.{factors}

-- the sum of the points' values times their factors
abbrev pub share_sum : List ℕ → List (ℕ × ℕ) → ℕ
share_sum points pairs = sum_by (λ pair. slice_index points pair.0 * pair.1) pairs

-- sixteen times the weight of the texel (x, y), from the unquantized weights of a plane's grid
-- points
unfoldable pub numerator : (w h n m x y : ℕ) → List ℕ → ℕ
numerator w h n m x y points = share_sum points (factors w h n m x y)

-- the weight, 0 to 64, rounded from sixteenths
abbrev pub rounded : ℕ → ℕ
rounded numerator = (numerator + 8) / 16

-- the sum of the values times their factors for one plane, if the values of the planes alternate
abbrev pub plane_sum : (planes plane : ℕ) → List ℕ → List (ℕ × ℕ) → ℕ
plane_sum planes plane values pairs =
    sum_by (λ pair. slice_index values (pair.0 * planes + plane) * pair.1) pairs

-- the index of the last plane
abbrev pub last_plane : ℕ → ℕ
last_plane planes = if planes == 1 then 0 else 1
