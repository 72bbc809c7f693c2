use Rattle.std.proofs.Common.{arith}
use Rattle.texel_lanes.proofs.LineLaws.{along_is, four_small}
use Rattle.texel_lanes.proofs.lines.along.Goals as goal

pub four_times_and-requires-clause-one : goal.four_times_and-requires-clause-one
four_times_and-requires-clause-one c = λ t l.
    omega (
      arith,
      c.products_of-coarse.ensures.each t l,
      four_small c.distances-apart.result c.args.quarters t 63 l c.distances-apart.ensures.small
          c.requires.quarters,
    )

pub four_times_and-requires-clause-other : goal.four_times_and-requires-clause-other
four_times_and-requires-clause-other c = λ t l.
    omega (
      arith,
      c.products_of-fine.ensures.each t l,
      four_small c.distances-apart.result c.args.rests t 3 l c.distances-apart.ensures.small
          c.requires.rests,
    )

pub returns-clause-exact : goal.returns-clause-exact
returns-clause-exact c =
    along_is c.distances-apart.result c.products_of-coarse.result c.products_of-fine.result
    c.args.texels c.args.origins c.args.quarters c.args.rests c.four_times_and.result
    c.distances-apart.ensures.lanes c.products_of-coarse.ensures c.products_of-fine.ensures
    c.four_times_and.ensures

pub returns-clause-small : goal.returns-clause-small
returns-clause-small c = λ t l.
    omega (
      arith,
      c.four_times_and.ensures.each t l,
      c.products_of-coarse.ensures.each t l,
      c.products_of-fine.ensures.each t l,
      four_small c.distances-apart.result c.args.quarters t 63 l c.distances-apart.ensures.small
          c.requires.quarters,
      four_small c.distances-apart.result c.args.rests t 3 l c.distances-apart.ensures.small
          c.requires.rests,
    )
