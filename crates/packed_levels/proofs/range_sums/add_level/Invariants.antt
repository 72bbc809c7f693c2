use Rattle.std.proofs.Common.{◌≡◌, ◌-◌, ◌++◌, take, sum}
use Rattle.std.specs.List.{flat_map, range_with_len}
use Rattle.texture.specs.Places.{first_block}
use Rattle.packed_levels.specs.Reports.{image_told}
use Rattle.packed_levels.proofs.range_sums.add_level.Given as goal

abbrev pub invariant-loop-image : goal.invariant-loop-image
invariant-loop-image l = record {
  images : l.sums.images.items ≡ l.fn.sums.images.items ++ flat_map
      (image_told l.layout l.start l.errors l.level) (range_with_len 0 l.image);
  total : l.sums.total ≡ sum (take (first_block l.layout l.level l.image - l.start) l.errors);
}
