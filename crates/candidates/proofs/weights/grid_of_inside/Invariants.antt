use Rattle.std.proofs.Common.{◌≡◌, map, length}
use Rattle.std.specs.List.{range_with_len}
use Rattle.astc_model.specs.Targets.{place_of_point}
use Rattle.candidates.proofs.weights.grid_of_inside.Given as goal

abbrev pub invariant-loop-k : goal.invariant-loop-k
invariant-loop-k g l = record {
  places : l.grid.items ≡ map (place_of_point g.row.W g.row.H l.n l.m l.places)
      (range_with_len 0 l.k);
  count : length l.grid.items ≡ l.k;
}
