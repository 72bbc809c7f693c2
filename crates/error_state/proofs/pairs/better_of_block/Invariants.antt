use Rattle.std.proofs.Common.{◌<◌, ◌≤◌}
use Rattle.astc_model.specs.PairChanges.{PairChange, IsPairChange}
use Rattle.error_tables.specs.State.{view_of}
use Rattle.error_state.specs.Scans.{error_now}
use Rattle.error_state.specs.Pairs.{error_with_pair}
use Rattle.error_state.proofs.pairs.better_of_block.Given as goal

abbrev pub invariant-loop-part : goal.invariant-loop-part
invariant-loop-part g l = record {
  looked : (change : PairChange) → IsPairChange l.tables.block change → change.part < l.part
      → error_now g.row.W g.row.H (view_of l.tables) ≤ error_with_pair g.row.W g.row.H
      (view_of l.tables) change;
  rises : l.initial.steps ≤ l.steps;
}
