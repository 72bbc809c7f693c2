use Rattle.std.proofs.Common.{◌≡◌, ◌+◌, arith}
use Rattle.astc_model.specs.declared.block.Block.TheVariants.{Coded}
use Rattle.error_tables.specs.Changed.{with_weight}
use Rattle.error_tables.specs.State.{view_of, error_in}
use Rattle.error_tables.proofs.TouchLaws.{plane-lt}
use Rattle.error_tables.proofs.WeightTrial.{weight_result, all_small, reach_count}
use Rattle.error_tables.proofs.weights.error_with_weight.Given.{Over}
use Rattle.error_tables.proofs.weights.error_with_weight.Goals as goal
use Rattle.error_tables.proofs.weights.error_with_weight.Goals.{After-weights_exchange-exchange}

pub weights_exchange-exchange-requires-clause-plane :
    goal.weights_exchange-exchange-requires-clause-plane
weights_exchange-exchange-requires-clause-plane g c =
    rw c.from-plane.ensures
    (omega (
      arith,
      plane-lt c.args.tables.now.mode.planes c.args.i
          c.requires.kept.is_shaped.some_plane c.requires.kept.is_shaped.two_planes,
      c.requires.kept.is_shaped.two_planes,
    ))

pub weights_exchange-exchange-requires-clause-moved :
    goal.weights_exchange-exchange-requires-clause-moved
weights_exchange-exchange-requires-clause-moved g c =
    rw c.as_slice.ensures.value
    (all_small g.row.W g.row.H c.args.tables.now c.requires.kept c.args.i c.args.value
    c.requires.integer c.requires.range c.reach_of_weight-reach.result.items
    c.from-plane.result c.value_of-old.result c.weight_value-new.result
    c.reach_of_weight-reach.ensures.are
    c.from-plane.ensures c.value_of-old.ensures.value c.weight_value-new.ensures.value)

pub overflow_add-result : goal.overflow_add-result
overflow_add-result g c =
    omega (
      arith,
      c.requires.kept.small.total,
      c.weights_exchange-exchange.ensures.few,
      c.reach_of_weight-reach.ensures.few,
    )

exchange : (g : Over) (c : After-weights_exchange-exchange g)
    → error_in g.row.W g.row.H (view_of c.args.tables.now)
    (Coded (with_weight c.args.tables.now.block c.args.i c.args.value))
    + c.weights_exchange-exchange.result.less
    ≡ c.args.tables.now.total + c.weights_exchange-exchange.result.more
exchange g c =
    weight_result g.row.W g.row.H c.args.tables.now c.requires.kept c.args.i c.args.value
    c.requires.integer c.requires.range c.reach_of_weight-reach.result.items
    c.from-plane.result c.value_of-old.result c.weight_value-new.result _ _
    c.reach_of_weight-reach.ensures.are
    c.from-plane.ensures c.value_of-old.ensures.value c.weight_value-new.ensures.value
    (rw c.as_slice.ensures.value at c.weights_exchange-exchange.ensures.less)
    (rw c.as_slice.ensures.value at c.weights_exchange-exchange.ensures.more)

pub overflow_sub-result : goal.overflow_sub-result
overflow_sub-result g c =
    omega (arith, exchange g (goal.at.overflow_sub-result g c).After-weights_exchange-exchange)

pub returns-clause-sum : goal.returns-clause-sum
returns-clause-sum g c =
    omega (arith, exchange g (goal.at.returns-clause-sum g c).After-weights_exchange-exchange)

pub returns-clause-steps : goal.returns-clause-steps
returns-clause-steps g c =
    rw (← reach_count g.row.W g.row.H _ _ _ _ c.reach_of_weight-reach.ensures.are)
    (rw c.as_slice.ensures.value at c.weights_exchange-exchange.ensures.steps)
