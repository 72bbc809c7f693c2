use Rattle.std.proofs.Common.{arith}
use Rattle.error_tables.specs.State.{view_of, touched_count}
use Rattle.error_state.proofs.ScanLaws.{steps_within}
use Rattle.error_state.proofs.weight_scan.best_weight_of.Goals as goal

pub returns-clause-steps : goal.returns-clause-steps
returns-clause-steps g c =
    steps_within 0 c.from-present.result c.count-all.result _
    (touched_count g.row.W g.row.H (view_of c.args.scan.now.tables.now) c.args.scan.now.i) _ _ _
    (omega (arith, c.requires.within, c.from-present.ensures, c.count-all.ensures))
    (omega (arith, c.count-all.ensures))
    c.best_weight_between-below.ensures.steps c.best_weight_between.ensures.steps
