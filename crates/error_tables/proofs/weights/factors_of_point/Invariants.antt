use Rattle.std.proofs.Common.{◌≡◌, ◌<◌, ◌/◌, ◌%◌, ℕ, get_or, length}
use Rattle.weight_infill.specs.Touched.{factor_of}
use Rattle.error_tables.specs.Arounds.{factor_inside}
use Rattle.error_tables.proofs.weights.factors_of_point.Given as goal

abbrev pub invariant-loop-p : goal.invariant-loop-p
invariant-loop-p g l = record {
  done : (k : ℕ) → k < l.p → get_or l.factors k 0
      ≡ factor_inside l.tables.places.now k
      (factor_of g.row.W g.row.H l.tables.mode.across l.tables.mode.down l.point (k % g.row.W)
      (k / g.row.W));
  long : length l.factors ≡ 144;
}
