use Rattle.std.proofs.Common.{◌≤◌, arith}
use Rattle.std.specs.Prelude.{sum_by}
use Rattle.texel_error.proofs.LimitLaws.{under-none}
use Rattle.error_tables.specs.Trials.{coloured}
use Rattle.colour_bounds.proofs.part_scan.ends_tried.Goals as goal

pub returns-then-is_over-clause-exact : goal.returns-then-is_over-clause-exact
returns-then-is_over-clause-exact g c = λ limit error bar exchange.
    let far : c.args.bar ≤ sum_by (coloured c.args.scan.now.tables.now c.args.ends.now)
    c.args.scan.now.reach.now =
    c.is_over.ensures c.args.scan.now.reach.now c.args.bar c.requires.scan.floored c.requires.enough
    c.if-is_over.true
    in
    under-none limit error (omega (arith, exchange, bar, far))
