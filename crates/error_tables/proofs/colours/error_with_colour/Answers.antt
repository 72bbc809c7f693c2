use Rattle.std.proofs.Common.{◌≡◌, ◌+◌, arith}
use Rattle.astc_model.specs.declared.block.Block.TheVariants.{Coded}
use Rattle.error_tables.specs.Changed.{with_colour}
use Rattle.error_tables.specs.State.{view_of, error_in}
use Rattle.error_tables.proofs.ColourTrial.{colour_result, part_size}
use Rattle.error_tables.proofs.colours.error_with_colour.Given.{Over}
use Rattle.error_tables.proofs.colours.error_with_colour.Goals as goal
use Rattle.error_tables.proofs.colours.error_with_colour.Goals.{After-colours_exchange-exchange}

pub overflow_add-result : goal.overflow_add-result
overflow_add-result g c =
    omega (
      arith,
      c.requires.kept.small.total,
      c.colours_exchange-exchange.ensures.few,
      c.reach_of_part-reach.ensures.few,
    )

exchange : (g : Over) (c : After-colours_exchange-exchange g)
    → error_in g.row.W g.row.H (view_of c.args.tables.now)
    (Coded (with_colour c.args.tables.now.block c.args.i c.args.value))
    + c.colours_exchange-exchange.result.less
    ≡ c.args.tables.now.total + c.colours_exchange-exchange.result.more
exchange g c =
    colour_result g.row.W g.row.H c.args.tables.now c.requires.kept c.args.i c.args.value
    c.args.part c.requires.integer c.requires.range c.reach_of_part-reach.result.now
    c.changed_ends-ends.result _ _ c.reach_of_part-reach.ensures.are c.changed_ends-ends.ensures
    c.colours_exchange-exchange.ensures.less c.colours_exchange-exchange.ensures.more

pub overflow_sub-result : goal.overflow_sub-result
overflow_sub-result g c =
    omega (arith, exchange g (goal.at.overflow_sub-result g c).After-colours_exchange-exchange)

pub returns-clause-sum : goal.returns-clause-sum
returns-clause-sum g c =
    omega (arith, exchange g (goal.at.returns-clause-sum g c).After-colours_exchange-exchange)

pub returns-clause-steps : goal.returns-clause-steps
returns-clause-steps g c =
    rw (← part_size g.row.W g.row.H c.args.tables.now c.args.part c.reach_of_part-reach.result.now
    c.reach_of_part-reach.ensures.are) c.colours_exchange-exchange.ensures.steps
