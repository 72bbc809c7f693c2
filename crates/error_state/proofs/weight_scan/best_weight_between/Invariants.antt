use Rattle.std.proofs.Common.{ℕ, ◌-◌, ◌*◌, ◌<◌, ◌≤◌}
use Rattle.std.specs.Prelude.{IfSome}
use Rattle.texel_error.specs.Counting.{TakesAtMost}
use Rattle.error_tables.specs.State.{view_of}
use Rattle.error_state.specs.Scans.{error_now, error_with_value, reach_count, IsBetter, least_of}
use Rattle.error_state.specs.declared.kinds.CodedKind.TheVariants.{Weight}
use Rattle.error_state.proofs.weight_scan.best_weight_between.Given as goal

abbrev pub invariant-loop-value : goal.invariant-loop-value
invariant-loop-value g l = record {
  better : IfSome l.best (IsBetter g.row.W g.row.H (view_of l.scan.tables.now) Weight l.scan.i);
  least : (value : ℕ) → l.from ≤ value → value < l.value
      → least_of (error_now g.row.W g.row.H (view_of l.scan.tables.now)) l.best ≤ error_with_value
      g.row.W g.row.H (view_of l.scan.tables.now) Weight l.scan.i value;
  falls : least_of (error_now g.row.W g.row.H (view_of l.scan.tables.now)) l.best ≤ least_of
      (error_now g.row.W g.row.H (view_of l.scan.tables.now)) l.fn.found;
  steps : TakesAtMost l.initial.steps l.steps ((l.value - l.from) * reach_count g.row.W g.row.H
      (view_of l.scan.tables.now) Weight l.scan.i);
}
