use Rattle.std.proofs.Common.{◌∙◌, ap, sym}
use Rattle.tex_shelf.proofs.TakingLemmas.{taken_told}
use Rattle.ktx_file.specs.Headers.{header_in}
use Rattle.tex_shelf.proofs.StopLemmas.{exit_fault}
use Rattle.ktx_file.proofs.reading.read_header.Goals as goal

pub returns-in_err-header-clause-reads : goal.returns-in_err-header-clause-reads
returns-in_err-header-clause-reads g c = λ input e.
    let cut = taken_told 64 c.in_ok-taken.taken _ input _ _ c.in_ok-taken.ensures.taken e in
    exit_fault _ _ _ _ c.from_residual-in_err-header.result c.in_err-header.field-0.0
    c.from_residual-in_err-header.ensures.1
    (ap header_in (sym cut.front) ∙ sym c.header_in.ensures.exact ∙ c.in_err-header.was)

pub returns-clause-reads : goal.returns-clause-reads
returns-clause-reads g c = λ input e.
    let cut = taken_told 64 c.in_ok-taken.taken _ input _ _ c.in_ok-taken.ensures.taken e in
    (cut.left_is, ap header_in (sym cut.front) ∙ sym c.header_in.ensures.exact ∙ c.in_ok-header.was)
