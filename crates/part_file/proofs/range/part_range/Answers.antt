use Rattle.std.proofs.Common.{◌+◌, arith}
use Rattle.part_file.proofs.RangeLemmas.{starts_rise, start_most}
use Rattle.part_file.proofs.range.part_range.Goals as goal

pub overflow_sub-result : goal.overflow_sub-result
overflow_sub-result c =
    omega (
      arith,
      c.part_start-start.ensures.exact,
      c.part_start-end.ensures.exact,
      starts_rise
          c.args.layout.now c.args.place c.args.count,
    )

pub returns-clause-within : goal.returns-clause-within
returns-clause-within c = omega (
  arith,
  c.part_start-start.ensures.exact,
  c.part_start-end.ensures.exact,
  starts_rise c.args.layout.now c.args.place c.args.count,
  start_most c.args.layout.now (c.args.place + 1) c.args.count
      (omega (arith, c.requires.placed.below)),
)
