use Rattle.std.proofs.Common.{◌≡◌, ◌++◌, map}
use Rattle.std.specs.List.{flat_map, range_with_len}
use Rattle.unpacking.specs.Unpacked.{place_in, told_of, level_told}
use Rattle.unpacking.proofs.sums.images_told.Given as goal

abbrev pub invariant-loop-level : goal.invariant-loop-level
invariant-loop-level l = l.told.items ≡ flat_map (level_told l.fn.ktx) (range_with_len 0 l.level)

abbrev pub invariant-loop-image : goal.invariant-loop-image
invariant-loop-image l =
    l.told.items ≡ flat_map (level_told l.fn.ktx) (range_with_len 0 l.level) ++ map
    (λ image. told_of l.fn.ktx (place_in l.fn.ktx l.level image)) (range_with_len 0 l.image)
