use Rattle.std.proofs.Common.{◌≡◌, ◌-◌, take, sum}
use Rattle.std.specs.List.{flat_map, range_with_len}
use Rattle.astc_model.specs.Sums.{sum_to}
use Rattle.texture.specs.Shapes.{level_blocks}
use Rattle.packed_levels.specs.Reports.{level_told}
use Rattle.packed_levels.proofs.range_sums.sums_of_range.Given as goal

abbrev pub invariant-loop-level : goal.invariant-loop-level
invariant-loop-level l = record {
  images : l.sums.images.items ≡ flat_map (level_told l.layout l.start l.errors)
      (range_with_len 0 l.level);
  total : l.sums.total ≡ sum (take (sum_to (level_blocks l.layout) l.level - l.start) l.errors);
}
