use Rattle.std.proofs.Common.{◌≡◌, map, length, Some}
use Rattle.std.specs.List.{range_with_len}
use Rattle.candidates.specs.Sides.{place_of_sides}
use Rattle.candidates.proofs.sides.grid_of_sides.Given as goal

abbrev pub invariant-loop-k : goal.invariant-loop-k
invariant-loop-k g l = record {
  places : l.grid.items ≡ map (λ k. Some (place_of_sides g.row.W g.row.H l.n l.m k))
      (range_with_len 0 l.k);
  count : length l.grid.items ≡ l.k;
}
