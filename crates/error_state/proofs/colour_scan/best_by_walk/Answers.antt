use Rattle.std.proofs.Common.{◌+◌, ◌-◌, arith}
use Rattle.astc_model.specs.Levels.{count_of}
use Rattle.error_tables.specs.State.{coloured_count}
use Rattle.colour_bounds.specs.PartScans.{state_of, integer_of}
use Rattle.error_state.specs.declared.kinds.CodedKind.TheVariants.{Colour}
use Rattle.error_state.proofs.ScanLaws.{least-le}
use Rattle.error_state.proofs.WalkTrial.{all_values, both_steps}
use Rattle.error_state.proofs.colour_scan.best_by_walk.Goals as goal

pub returns-clause-least : goal.returns-clause-least
returns-clause-least g c =
    all_values g.row.W g.row.H c.args.scan.now c.args.place c.requires.scan c.requires.place
    c.args.walk.now c.requires.walk c.best_below.result
    (least-le g.row.W g.row.H (state_of c.args.scan.now) Colour
    (integer_of c.args.scan.now c.args.place) c.best_below.result c.best_below.ensures.better)
    (λ at high inside.
    omega (arith, c.best_above-above.ensures.least at high inside, c.best_below.ensures.falls))
    c.best_below.ensures.least

pub returns-clause-steps : goal.returns-clause-steps
returns-clause-steps g c =
    both_steps (c.args.walk.now.order.count - (c.args.walk.now.start + 1))
    c.args.walk.now.start (count_of c.args.scan.now.tables.now.level - 1)
    (coloured_count g.row.W g.row.H (state_of c.args.scan.now)
    (integer_of c.args.scan.now c.args.place)) _ _ _
    (omega (arith, c.requires.walk.on.starts.within, c.requires.walk.on.orders.fits))
    c.best_above-above.ensures.steps c.best_below.ensures.steps
