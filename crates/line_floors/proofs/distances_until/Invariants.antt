use Rattle.std.proofs.Common.{◌≡◌, ◌*◌, ◌^◌, ◌≤◌}
use Rattle.astc_model.specs.Sums.{sum_to}
use Rattle.line_floors.specs.Floors.{part_distance}
use Rattle.line_floors.proofs.distances_until.Given as goal

abbrev pub invariant-loop-part : goal.invariant-loop-part
invariant-loop-part l = record {
  exact : l.distances ≡ sum_to (part_distance l.flavour l.gains l.sums l.ends) l.part;
  small : l.distances ≤ 2 ^ 37 * l.part;
}
