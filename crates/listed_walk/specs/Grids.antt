-- The grids of sources.
use Rattle.std.specs.Prelude.{◌≡◌, ℕ, ◌+◌, ◌*◌, ◌/◌, ◌<◌, List, Option, None, length}
use Rattle.arrayvec.specs.ArrayVec.{ArrayVec}
use Rattle.astc_model.specs.Places.{Texel}
use Rattle.astc_model.specs.Shapes.{grid_fault}
use Rattle.astc_model.specs.declared.mode.Mode.{Mode}
use Rattle.candidates.specs.Pieces.{grid_places}
use Rattle.listed_walk.specs.Origins.{AreOriginsTo}
use Rattle.listed_walk.specs.declared.origins.GridOrigins.{GridOrigins}
use Rattle.listed_walk.specs.declared.patterns.InsidePattern.{InsidePattern}
use Rattle.listed_walk.specs.GridTables.{AreGridsTo, AreOriginsIn, grid_at, origins_at}
use Rattle.listed_walk.specs.Patterns.{IsInside}

-- the grids are those of these places, and so is where weights come from in them, as far as the
-- table goes
pub record AreGrids (w h : ℕ) (places : List (Option Texel)) (grids : List (ArrayVec (Option ℕ)))
    (table : List GridOrigins) : Type 0 where
  pub each : AreGridsTo w h places 121 grids
  pub origins : (k : ℕ) → k < 121 → k < length table → AreOriginsIn w h k (grid_at grids k)
      (origins_at table k)

-- they are those of each source that is inside in exactly a pattern
abbrev pub AreGridsWithin : (w h : ℕ) → InsidePattern → List (ArrayVec (Option ℕ))
    → List GridOrigins → Type 0
AreGridsWithin w h pattern grids table = (places : List (Option Texel))
    → IsInside w h pattern.columns pattern.rows places → AreGrids w h places grids table

-- these are the origins of weights in the grid of a mode, whatever places the grids are those of
abbrev pub AreOriginsOf : Mode → List (ArrayVec (Option ℕ)) → List GridOrigins → GridOrigins
    → Type 0
AreOriginsOf mode grids table found =
    (w h : ℕ) (places : List (Option Texel)) → grid_fault w h mode ≡ None
    → AreGrids w h places grids table
    → AreOriginsTo w h mode.across mode.down (grid_places w h mode.across mode.down places)
    ((w * h + 3) / 4) found.groups
