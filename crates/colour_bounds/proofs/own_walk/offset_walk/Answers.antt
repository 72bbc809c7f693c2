use Rattle.std.proofs.Common.{◌∙◌, arith}
use Rattle.colour_bounds.proofs.OrderLaws.{half_is, half_has}
use Rattle.colour_bounds.proofs.OrderedWalks.{half_rises, offset_walk}
use Rattle.colour_bounds.proofs.RankLaws.{few}
use Rattle.colour_bounds.proofs.TrendLaws.{offsetting_is}
use Rattle.colour_bounds.proofs.own_walk.offset_walk.Goals as goal

pub position_of-start-requires-clause-few : goal.position_of-start-requires-clause-few
position_of-start-requires-clause-few g c =
    rw c.half_order-order.ensures.exact
    (let order = half_is c.args.scan.now.tables.now.level c.requires.scan.kept.is_shaped.six
    c.args.rank in
    omega (arith, order.fits, few c.args.scan.now.tables.now.level))

pub position_of-start-requires-clause-turn : goal.position_of-start-requires-clause-turn
position_of-start-requires-clause-turn g c =
    rw c.half_order-order.ensures.exact
    (half_is c.args.scan.now.tables.now.level c.requires.scan.kept.is_shaped.six c.args.rank).turns

pub position_of-start-requires-clause-from : goal.position_of-start-requires-clause-from
position_of-start-requires-clause-from g c =
    rw c.half_order-order.ensures.exact
    (half_has c.args.scan.now.tables.now.level c.requires.scan.kept.is_shaped.six c.args.rank
    c.requires.range).0

pub position_of-start-requires-clause-range : goal.position_of-start-requires-clause-range
position_of-start-requires-clause-range g c =
    rw c.half_order-order.ensures.exact
    (half_has c.args.scan.now.tables.now.level c.requires.scan.kept.is_shaped.six c.args.rank
    c.requires.range).1

pub walk_along-requires-clause-orders : goal.walk_along-requires-clause-orders
walk_along-requires-clause-orders g c =
    rw c.half_order-order.ensures.exact
    (half_is c.args.scan.now.tables.now.level c.requires.scan.kept.is_shaped.six c.args.rank)

pub walk_along-requires-clause-rises : goal.walk_along-requires-clause-rises
walk_along-requires-clause-rises g c =
    rw (c.half_order-order.ensures.exact, c.offset_end.ensures)
    (half_rises g.row.W g.row.H c.args.scan.now c.args.place c.requires.scan c.requires.place
    (offsetting_is c.args.scan.now.cem c.requires.mode) c.requires.odd c.args.trend c.args.rank
    c.requires.range)

pub returns-then-is_other_half_far : goal.returns-then-is_other_half_far
returns-then-is_other_half_far g c =
    offset_walk g.row.W g.row.H c.args.scan.now c.args.place c.requires.scan c.requires.place
    (offsetting_is c.args.scan.now.cem c.requires.mode) c.requires.odd c.args.trend c.args.rank
    c.requires.range c.requires.rank c.in-Some.walk c.in-Some.ensures.walk
    (c.in-Some.ensures.order ∙ c.half_order-order.ensures.exact) c.in-Some.ensures.trend
    (c.in-Some.ensures.end ∙ c.offset_end.ensures)
    (c.is_other_half_far.ensures c.if-is_other_half_far.true)
