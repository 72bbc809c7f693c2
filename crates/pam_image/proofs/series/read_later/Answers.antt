use Rattle.std.proofs.Common.{◌∙◌, ap, sym, Some}
use Rattle.pam_image.proofs.SayLaws.{exit_to, exit_fault}
use Rattle.pam_image.proofs.ImageLaws.{later_refused, later_is, later_passed}
use Rattle.pam_image.proofs.series.read_later.Goals as goal

pub returns-in_err-begun-clause-reads : goal.returns-in_err-begun-clause-reads
returns-in_err-begun-clause-reads g c = λ bytes e.
    exit_to _ _ _ c.from_residual.result c.in_err-begun.field-0.0 c.from_residual.ensures.1
    (later_passed c.args.width c.args.height c.args.image bytes c.in_err-begun.field-0.0
    (c.in_err-begun.ensures.reads bytes e))

pub returns-in_err-later_fits-clause-reads : goal.returns-in_err-later_fits-clause-reads
returns-in_err-later_fits-clause-reads g c = λ bytes e.
    let m = c.in_ok-begun.ensures.reads bytes e in
    exit_fault _ _ _ c.from_residual-in_err-later_fits.result c.in_err-later_fits.field-0.0
    c.from_residual-in_err-later_fits.ensures.1
    (later_refused c.args.width c.args.height c.args.image bytes c.in_ok-begun.begun.header
    c.in_err-later_fits.field-0.0 m.2.0 (sym c.later_fits.ensures.same
    ∙ c.in_err-later_fits.was))

pub returns-clause-reads : goal.returns-clause-reads
returns-clause-reads g c = λ bytes e.
    let m = c.in_ok-begun.ensures.reads bytes e in
    rw (later_is c.args.width c.args.height c.args.image bytes c.in_ok-begun.begun.header m.2.0
    (sym c.later_fits.ensures.same ∙ c.in_ok-later_fits.was))
    (c.read_texels.ensures.reads bytes (rw m.1 (ap Some m.2.1)))
