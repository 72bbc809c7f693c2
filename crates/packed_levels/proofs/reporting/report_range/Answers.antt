use Rattle.tex_shelf.specs.declared.stop.ShelfStop.TheVariants.{NoMemory}
use Rattle.outcomes.proofs.TellLaws.{tells-error, told-none}
use Rattle.packed_levels.specs.Reports.{range_lines}
use Rattle.packed_levels.proofs.reporting.report_range.Goals as goal

pub returns-in_err-sums-clause-tells : goal.returns-in_err-sums-clause-tells
returns-in_err-sums-clause-tells g c =
    let written = g.R.Report.written c.args.report.now in
    tells-error c.from_residual.result written written
    (range_lines c.args.layout.now c.args.start c.args.errors.now) _ _ NoMemory
    c.from_residual.ensures.1 (0, told-none written)
