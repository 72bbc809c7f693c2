-- A table of the places of the points of grids.
use Rattle.std.specs.Prelude.{◌≡◌, ℕ, ◌+◌, ◌*◌, ◌/◌, ◌%◌, ◌<◌, ◌≤◌, List, [], Option, length, slice_index_or}
use Rattle.arrayvec.specs.ArrayVec.{ArrayVec}
use Rattle.astc_model.specs.Places.{Texel}
use Rattle.candidates.specs.Pieces.{grid_places}
use Rattle.listed_walk.specs.Origins.{AreOriginsTo}
use Rattle.listed_walk.specs.declared.origins.GridOrigins.{GridOrigins}

-- the grids in a table, by their columns and rows, 2 to 12 each
abbrev pub columns_at : ℕ → ℕ
columns_at k = k / 11 + 2

abbrev pub rows_at : ℕ → ℕ
rows_at k = k % 11 + 2

-- the grid is one of blocks of w by h texels
pub record IsGridAt (w h k : ℕ) : Type 0 where
  pub columns : columns_at k ≤ w
  pub rows : rows_at k ≤ h
  pub points : columns_at k * rows_at k ≤ 64

-- the places of the points of a grid of the table, none past its end
abbrev pub grid_at : List (ArrayVec (Option ℕ)) → ℕ → List (Option ℕ)
grid_at grids k = (slice_index_or grids k (record { items = [] })).items

-- the first n grids of the table have the places of their points among these places
pub record AreGridsTo (w h : ℕ) (places : List (Option Texel)) (n : ℕ)
    (grids : List (ArrayVec (Option ℕ))) : Type 0 where
  pub all : length grids ≡ n
  pub each : (k : ℕ) → k < n → IsGridAt w h k → grid_at grids k ≡ grid_places w h (columns_at k)
      (rows_at k) places

-- an entry of a table of origins of weights
abbrev pub origins_at : List GridOrigins → ℕ → GridOrigins
origins_at table k = slice_index_or table k (record { groups = [] })

-- this is where weights come from in the grid at a place of the table, whose points have these
-- places
abbrev pub AreOriginsIn : (w h k : ℕ) → List (Option ℕ) → GridOrigins → Type 0
AreOriginsIn w h k grid origins = IsGridAt w h k → AreOriginsTo w h (columns_at k) (rows_at k) grid
    ((w * h + 3) / 4) origins.groups
