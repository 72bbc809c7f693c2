-- The unquantized weights of a candidate's grid points.
use Rattle.std.specs.Prelude.{ℕ, List, map, Option}
use Rattle.astc_model.specs.declared.level.Level.{Level}
use Rattle.quant_tables.specs.Tables.{nearest_weight_value}
use Rattle.candidates.specs.Pieces.{point_target}

-- the unquantized weight of a grid point, from the target at its place
abbrev pub point_value : Level → List ℕ → Option ℕ → ℕ
point_value level targets place = nearest_weight_value level (point_target targets place)

-- the unquantized weights of all grid points in one plane
unfoldable pub plane_values : Level → List (Option ℕ) → List ℕ → List ℕ
plane_values level grid targets = map (point_value level targets) grid
