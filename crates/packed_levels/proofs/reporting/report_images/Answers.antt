use Rattle.std.proofs.Common.{◌∙◌}
use Rattle.tex_shelf.proofs.FaultsLemmas.{rose_since}
use Rattle.outcomes.proofs.PieceLaws.{stopped-put}
use Rattle.packed_levels.specs.Reports.{image_line}
use Rattle.packed_levels.proofs.PuttingLaws.{err-is}
use Rattle.packed_levels.proofs.ReportLaws.{told-first}
use Rattle.packed_levels.proofs.reporting.report_images.Goals as goal

pub returns-in_err-image_line-clause-tells : goal.returns-in_err-image_line-clause-tells
returns-in_err-image_line-clause-tells g c =
    rw (err-is c.from_residual.result _ c.from_residual.ensures.1)
    (told-first image_line c.args.images.now c.loop-image.image-index _ _
    c.loop-image.invariant.written)

pub returns-in_err-put-clause-tells : goal.returns-in_err-put-clause-tells
returns-in_err-put-clause-tells g c =
    rw (err-is c.from_residual-in_err-put.result _ c.from_residual-in_err-put.ensures.1)
    (stopped-put _ _ _ c.in_err-put.field-0.0
    (told-first image_line c.args.images.now c.loop-image.image-index _ _
    (c.in_err-put.ensures.refused ∙ c.loop-image.invariant.written))
    (λ failed. rose_since _ _ _ c.loop-image.invariant.never_falls
    (c.in_err-put.ensures.counts.failed failed)))
