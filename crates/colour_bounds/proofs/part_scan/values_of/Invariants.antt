use Rattle.std.proofs.Common.{◌≡◌, length, map, take}
use Rattle.astc_model.specs.ColourValues.{colour_value}
use Rattle.colour_bounds.proofs.part_scan.values_of.Given as goal

abbrev pub invariant-loop-k : goal.invariant-loop-k
invariant-loop-k l = record {
  done : take l.k l.values ≡ map (colour_value l.level) (take l.k l.integers);
  eight : length l.values ≡ 8;
}
