use Rattle.std.proofs.Common.{arith}
use Rattle.error_tables.proofs.PairTrial.{place_fits}
use Rattle.error_state.proofs.pairs.first_place.Goals as goal

pub overflow_cast-result : goal.overflow_cast-result
overflow_cast-result g c =
    omega (
      arith,
      c.colour_count-from.ensures.count,
      place_fits g.row.W g.row.H c.args.tables.now c.requires.kept c.args.part c.args.pair
          c.requires.own c.requires.pair,
      c.requires.kept.is_shaped.few_colours,
    )

pub returns-clause-inside : goal.returns-clause-inside
returns-clause-inside g c =
    omega (
      arith,
      c.colour_count-from.ensures.count,
      c.from.ensures,
      place_fits g.row.W g.row.H c.args.tables.now c.requires.kept c.args.part c.args.pair
          c.requires.own c.requires.pair,
    )

pub returns-clause-few : goal.returns-clause-few
returns-clause-few g c =
    omega (
      arith,
      c.colour_count-from.ensures.count,
      c.from.ensures,
      place_fits g.row.W g.row.H c.args.tables.now c.requires.kept c.args.part c.args.pair
          c.requires.own c.requires.pair,
      c.requires.kept.is_shaped.few_colours,
    )
