use Rattle.std.proofs.Common.{ℕ, ◌-◌, ◌*◌, ◌<◌, ◌≤◌}
use Rattle.std.specs.Prelude.{IfSome}
use Rattle.texel_error.specs.Counting.{TakesAtMost}
use Rattle.colour_bounds.specs.PartScans.{state_of}
use Rattle.error_state.specs.ColourScans.{IsLimit}
use Rattle.colour_bounds.specs.PartScans.{integer_of}
use Rattle.error_state.specs.Scans.{error_now, error_with_value, reach_count, IsBetter, least_of}
use Rattle.error_state.specs.declared.kinds.CodedKind.TheVariants.{Colour}
use Rattle.error_state.proofs.colour_scan.best_colour_between.Given as goal

abbrev pub invariant-loop-value : goal.invariant-loop-value
invariant-loop-value g l = record {
  is_limit : IsLimit l.scan l.limit;
  better : IfSome l.limit.best (IsBetter g.row.W g.row.H (state_of l.scan) Colour
      (integer_of l.scan l.place));
  least : (value : ℕ) → l.from ≤ value → value < l.value
      → least_of (error_now g.row.W g.row.H (state_of l.scan)) l.limit.best ≤ error_with_value
      g.row.W g.row.H (state_of l.scan) Colour (integer_of l.scan l.place) value;
  falls : least_of (error_now g.row.W g.row.H (state_of l.scan)) l.limit.best ≤ least_of
      (error_now g.row.W g.row.H (state_of l.scan)) l.fn.found.best;
  steps : TakesAtMost l.initial.steps l.steps ((l.value - l.from) * reach_count g.row.W g.row.H
      (state_of l.scan) Colour (integer_of l.scan l.place));
}
