use Rattle.std.proofs.Common.{◌≡◌, map, length}
use Rattle.std.specs.List.{range_with_len}
use Rattle.candidates.specs.Pieces.{weight_from}
use Rattle.candidates.proofs.weights.weights_from.Given as goal

abbrev pub invariant-loop-at : goal.invariant-loop-at
invariant-loop-at l = record {
  weights : l.weights.items ≡ map (weight_from l.level l.planes l.grid l.first l.second)
      (range_with_len 0 l.at);
  count : length l.weights.items ≡ l.at;
}
