use Rattle.std.proofs.Common.{map, ◌∷◌, []}
use Rattle.packed_levels.specs.Reports.{image_line, total_line}
use Rattle.packed_levels.proofs.PuttingLaws.{err-is}
use Rattle.outcomes.proofs.TellLaws.{tells-last}
use Rattle.packed_levels.proofs.ReportLaws.{stopped-longer}
use Rattle.packed_levels.proofs.reporting.report_sums.Goals as goal

pub returns-in_err-report_images-clause-tells : goal.returns-in_err-report_images-clause-tells
returns-in_err-report_images-clause-tells g c =
    rw (err-is c.from_residual.result _ c.from_residual.ensures.1)
    (stopped-longer _ _ (map image_line c.args.sums.now.images.items)
    (total_line c.args.sums.now.total ∷ []) _ _ c.in_err-report_images.field-0.0
    (rw c.as_slice.ensures.value at c.in_err-report_images.ensures.tells))

pub returns-clause-tells : goal.returns-clause-tells
returns-clause-tells g c =
    tells-last c.put.result _ _ _ (map image_line c.args.sums.now.images.items)
    (total_line c.args.sums.now.total) _ _ _ c.report_images.ensures.never_falls
    (rw c.as_slice.ensures.value at c.in_ok-report_images.ensures.tells)
    (rw (c.as_str.ensures.value, c.in_ok-total_line.ensures) at c.put.ensures.appended)
    c.put.ensures.refused c.put.ensures.counts.failed
