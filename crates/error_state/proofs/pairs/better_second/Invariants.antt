use Rattle.std.proofs.Common.{◌<◌, ◌≤◌}
use Rattle.astc_model.specs.PairChanges.{PairChange, IsPairChange}
use Rattle.colour_bounds.specs.PartScans.{state_of}
use Rattle.error_state.specs.Scans.{error_now}
use Rattle.error_state.specs.Pairs.{error_with_pair, OfFirst}
use Rattle.error_state.proofs.pairs.better_second.Given as goal

abbrev pub invariant-loop-second : goal.invariant-loop-second
invariant-loop-second g l = record {
  looked : (change : PairChange) → IsPairChange l.scan.tables.now.block change
      → OfFirst l.scan.part l.pair l.first change → change.second < l.second
      → error_now g.row.W g.row.H (state_of l.scan) ≤ error_with_pair g.row.W g.row.H
      (state_of l.scan) change;
  rises : l.initial.steps ≤ l.steps;
}
