use Rattle.std.proofs.Common.{◌∙◌, sym}
use Rattle.tex_shelf.proofs.FilesLemmas.{with_front-nil}
use Rattle.pam_image.proofs.SayLaws.{exit_to, exit_fault}
use Rattle.pam_image.proofs.ImageLaws.{first_refused, first_found, first_passed}
use Rattle.pam_image.proofs.series.read_first.Goals as goal

pub returns-in_err-begun-clause-reads : goal.returns-in_err-begun-clause-reads
returns-in_err-begun-clause-reads g c = λ bytes e.
    exit_to _ _ _ c.from_residual.result c.in_err-begun.field-0.0 c.from_residual.ensures.1
    (first_passed c.args.want.now bytes c.in_err-begun.field-0.0
    (c.in_err-begun.ensures.reads bytes (with_front-nil _ ∙ e)))

pub returns-in_err-first_fits-clause-reads : goal.returns-in_err-first_fits-clause-reads
returns-in_err-first_fits-clause-reads g c = λ bytes e.
    let m = c.in_ok-begun.ensures.reads bytes (with_front-nil _ ∙ e) in
    exit_fault _ _ _ c.from_residual-in_err-first_fits.result c.in_err-first_fits.field-0.0
    c.from_residual-in_err-first_fits.ensures.1
    (first_refused c.args.want.now bytes c.in_ok-begun.begun.header c.in_err-first_fits.field-0.0
    m.2.0 (sym c.first_fits.ensures.same ∙ c.in_err-first_fits.was))

pub returns-clause-reads : goal.returns-clause-reads
returns-clause-reads g c = λ bytes e.
    let m = c.in_ok-begun.ensures.reads bytes (with_front-nil _ ∙ e) in (
      m.0,
      m.1,
      (
        first_found c.args.want.now bytes c.in_ok-begun.begun.header m.2.0
            (sym c.first_fits.ensures.same ∙ c.in_ok-first_fits.was),
        m.2.1,
      ),
    )
