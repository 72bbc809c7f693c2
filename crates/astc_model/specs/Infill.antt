-- The weight of a texel, from the four points of the weight grid around it
-- (Khronos Data Format Specification, ASTC, "Weight Infill").
use Rattle.std.specs.Prelude.{◌≡◌, ℕ, ◌+◌, ◌-◌, ◌*◌, ◌/◌, ◌%◌, ◌≤◌, ◌==◌, if◌then◌else◌, List, [], ◌∷◌, map, slice_index, sum_by}

-- the standard's Ds for the width, Dt for the height
abbrev pub side_scale : ℕ → ℕ
side_scale side = (1024 + side / 2) / (side - 1)

-- the position of a texel along a side of the grid (the standard's gs or gt), in sixteenths of the
-- distance between two grid points
unfoldable pub grid_position : (side points texel : ℕ) → ℕ
grid_position side points texel = (side_scale side * texel * (points - 1) + 32) / 64

-- a point of the grid, and its factor in the weight, in sixteenths
pub record Corner : Type 0 where
  pub column : ℕ
  pub row : ℕ
  pub factor : ℕ

-- the standard's w11: the factor of the point that follows the texel in both directions
abbrev pub last_factor : ℕ → ℕ → ℕ
last_factor fs ft = (fs * ft + 8) / 16

-- the points p00, p01, p10 and p11 with their factors: (js, jt) is the last point before the texel,
-- fs and ft are the sixteenths after it in both directions
abbrev pub corners_at : (js jt fs ft : ℕ) → List Corner
corners_at js jt fs ft =
    let w11 = last_factor fs ft in
    record { column = js; row = jt; factor = 16 + w11 - fs - ft }
    ∷ record { column = js + 1; row = jt; factor = fs - w11 }
    ∷ record { column = js; row = jt + 1; factor = ft - w11 }
    ∷ record { column = js + 1; row = jt + 1; factor = w11 }
    ∷ []

-- the four points around the texel (s, t) of a block of w by h texels, in a grid of n by m points
unfoldable pub corners : (w h n m s t : ℕ) → List Corner
corners w h n m s t =
    let gs = grid_position w n s in
    let gt = grid_position h m t in
    corners_at (gs / 16) (gt / 16) (gs % 16) (gt % 16)

-- the index of a point in a grid with n points per row, with its factor; index 0 for a factor of 0
abbrev pub placed : ℕ → Corner → ℕ × ℕ
placed n corner = (if corner.factor == 0 then 0 else corner.row * n + corner.column, corner.factor)

-- the indices of the four points around the texel (s, t) in the grid, with their factors
unfoldable pub factors : (w h n m s t : ℕ) → List (ℕ × ℕ)
factors w h n m s t = map (placed n) (corners w h n m s t)

-- the weight of the texel (s, t): the sum of the points' weights times their factors, divided by 16
-- and rounded
unfoldable pub infill : (w h n m s t : ℕ) → List ℕ → ℕ
infill w h n m s t points =
    (sum_by (λ point. slice_index points point.0 * point.1) (factors w h n m s t) + 8) / 16

-- a point outside a grid of n by m points has the factor 0
pub record IsZeroOutside (n m : ℕ) (corner : Corner) : Type 0 where
  pub beyond_columns : n ≤ corner.column → corner.factor ≡ 0
  pub beyond_rows : m ≤ corner.row → corner.factor ≡ 0
