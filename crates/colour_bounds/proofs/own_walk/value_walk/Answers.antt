use Rattle.std.proofs.Common.{◌∙◌}
use Rattle.astc_model.specs.Levels.{count_of}
use Rattle.colour_bounds.proofs.OrderLaws.{whole_rank}
use Rattle.colour_bounds.proofs.OrderedWalks.{whole_rises, whole_walk}
use Rattle.colour_bounds.proofs.own_walk.value_walk.Goals as goal

pub walk_along-requires-clause-starts : goal.walk_along-requires-clause-starts
walk_along-requires-clause-starts g c =
    rw c.whole_order-order.ensures.exact
    (record {
      within = c.requires.range;
      is = whole_rank (count_of c.args.scan.now.tables.now.level) c.args.rank c.requires.range
          ∙ c.requires.rank;
    })

pub walk_along-requires-clause-rises : goal.walk_along-requires-clause-rises
walk_along-requires-clause-rises g c =
    rw c.whole_order-order.ensures.exact
    (whole_rises c.args.scan.now c.args.trend c.args.place c.args.is_first
    c.requires.scan.eight_values c.requires.scan.kept.is_shaped.six c.requires.rises)

pub returns : goal.returns
returns g c =
    whole_walk g.row.W g.row.H c.args.scan.now c.args.place c.whole_order-order.result
    c.walk_along.result c.requires.scan.kept.is_shaped.six c.whole_order-order.ensures.exact
    c.walk_along.ensures.walk c.walk_along.ensures.order
