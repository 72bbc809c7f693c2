use Rattle.std.proofs.Common.{◌^◌, arith}
use Rattle.packed_levels.proofs.RangeLaws.{sum-most}
use Rattle.packed_levels.proofs.range_sums.add_image.Goals as goal

pub add-requires : goal.add-requires
add-requires c = omega (
  arith,
  c.sum_of.ensures.exact,
  sum-most
      (2 ^ 32) c.args.errors.now c.requires.small,
  c.requires.few,
  c.requires.total,
)
