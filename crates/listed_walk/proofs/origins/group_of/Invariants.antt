use Rattle.std.proofs.Common.{◌≡◌, ℕ, ◌+◌, ◌*◌, ◌<◌, length}
use Rattle.listed_walk.specs.Origins.{AreLaneOrigins}
use Rattle.listed_walk.proofs.origins.group_of.Given as goal

abbrev pub invariant-loop-t : goal.invariant-loop-t
invariant-loop-t g l = record {
  all_places : length l.places ≡ 16;
  all_factors : length l.factors ≡ 16;
  each : (s : ℕ) → s < l.t → AreLaneOrigins g.row.W g.row.H l.around.columns l.around.rows l.grid
      (4 * l.fn.g + s) l.places l.factors s;
}
