-- The grids of a picture's blocks, by the patterns of their inside places.
use Rattle.std.specs.Prelude.{◌≡◌, ℕ, ◌*◌, ◌/◌, ◌%◌, ◌<◌, ◌≤◌, List, [], Option, None, Some, length, slice_index_or}
use Rattle.std.specs.List.{All}
use Rattle.arrayvec.specs.ArrayVec.{ArrayVec}
use Rattle.astc_model.specs.Places.{Texel}
use Rattle.listed_walk.specs.declared.known.PatternGrids.{PatternGrids}
use Rattle.listed_walk.specs.declared.origins.GridOrigins.{GridOrigins}
use Rattle.listed_walk.specs.declared.patterns.InsidePattern.{InsidePattern}
use Rattle.listed_walk.specs.GridTables.{AreGridsTo, AreOriginsIn, IsGridAt, columns_at, grid_at, origins_at, rows_at}
use Rattle.listed_walk.specs.Patterns.{IsInside}

-- the grids are those of blocks that are inside in the pattern
pub record ArePatternGrids (w h : ℕ) (own : PatternGrids) : Type 0 where
  pub all : length own.by_sides.items ≡ 121
  pub points : (k : ℕ) → k < 121 → IsGridAt w h k → length (grid_at own.by_sides.items k)
      ≡ columns_at k * rows_at k
  pub inside : (k : ℕ) → k < 121 → IsGridAt w h k → (j p : ℕ)
      → slice_index_or (grid_at own.by_sides.items k) j None ≡ Some p → p < w * h
  pub within : (places : List (Option Texel))
      → IsInside w h own.pattern.columns own.pattern.rows places
      → AreGridsTo w h places 121 own.by_sides.items

-- the grids if no pattern has the number
abbrev pub no_grids : PatternGrids
no_grids = record { pattern = record { columns = 0; rows = 0 }; by_sides = record { items = [] } }

abbrev pub pattern_at : List PatternGrids → ℕ → InsidePattern
pattern_at patterns i = (slice_index_or patterns i no_grids).pattern

-- the table of the grids of a pattern, empty if no pattern has the number
abbrev pub table_at : List PatternGrids → ℕ → List (ArrayVec (Option ℕ))
table_at patterns i = (slice_index_or patterns i no_grids).by_sides.items

-- this is where weights come from in grid n % 121 of pattern n / 121
abbrev pub AreOriginsAt : (w h : ℕ) → List PatternGrids → ℕ → GridOrigins → Type 0
AreOriginsAt w h patterns n origins =
    AreOriginsIn w h (n % 121) (grid_at (table_at patterns (n / 121)) (n % 121)) origins

-- the grids are those of their patterns, and so is where weights come from in them, as far as the
-- table goes
pub record AreKnown (w h : ℕ) (patterns : List PatternGrids)
    (table : List GridOrigins) : Type 0 where
  pub each : All (ArePatternGrids w h) patterns
  pub few : length table ≤ length patterns * 121
  pub origins : (n : ℕ) → n < length table → AreOriginsAt w h patterns n (origins_at table n)
