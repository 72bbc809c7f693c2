use Rattle.std.proofs.Common.{◌≡◌, ◌<◌}
use Rattle.candidates.specs.Sides.{first_least, side_distance}
use Rattle.candidates.proofs.sides.nearest_on_side.Given as goal

abbrev pub invariant-loop-x : goal.invariant-loop-x
invariant-loop-x l = record {
  nearest : l.best ≡ first_least (side_distance l.side l.points l.others l.at) l.x;
  within : l.best < l.side;
}
