use Rattle.std.proofs.Common.{◌≡◌, map, length}
use Rattle.std.specs.List.{range_with_len}
use Rattle.candidates.specs.Sides.{nearest_on_side}
use Rattle.candidates.proofs.sides.side_places.Given as goal

abbrev pub invariant-loop-at : goal.invariant-loop-at
invariant-loop-at l = record {
  nearest : l.nearest.items ≡ map (nearest_on_side l.side l.points l.others)
      (range_with_len 0 l.at);
  count : length l.nearest.items ≡ l.at;
}
