use Rattle.std.proofs.Common.{ℕ, ◌+◌, ◌*◌, ◌<◌, ◌≤◌}
use Rattle.std.specs.Prelude.{IfSome}
use Rattle.astc_model.specs.Levels.{count_of}
use Rattle.texel_error.specs.Counting.{TakesAtMost}
use Rattle.colour_bounds.specs.Orders.{integer_on}
use Rattle.colour_bounds.specs.PartScans.{state_of, integer_of}
use Rattle.error_state.specs.Scans.{error_now, error_with_value, reach_count, IsBetter, least_of}
use Rattle.error_state.specs.declared.kinds.CodedKind.TheVariants.{Colour}
use Rattle.error_state.proofs.colour_scan.best_below.Given as goal

abbrev pub invariant-loop-step : goal.invariant-loop-step
invariant-loop-step g l = record {
  better : IfSome l.best (IsBetter g.row.W g.row.H (state_of l.scan) Colour
      (integer_of l.scan l.place));
  least : (at : ℕ) → at < l.walk.start → l.walk.start ≤ at + l.step
      → least_of (error_now g.row.W g.row.H (state_of l.scan)) l.best ≤ error_with_value
      g.row.W g.row.H (state_of l.scan) Colour (integer_of l.scan l.place)
      (integer_on (count_of l.scan.tables.now.level) l.walk.order at);
  falls : least_of (error_now g.row.W g.row.H (state_of l.scan)) l.best ≤ least_of
      (error_now g.row.W g.row.H (state_of l.scan)) l.fn.found;
  steps : TakesAtMost l.initial.steps l.steps (l.step * reach_count g.row.W g.row.H
      (state_of l.scan) Colour (integer_of l.scan l.place));
}
