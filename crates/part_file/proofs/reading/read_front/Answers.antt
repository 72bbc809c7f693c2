use Rattle.std.proofs.Common.{◌∙◌, ap, sym}
use Rattle.tex_shelf.proofs.TakingLemmas.{taken_told}
use Rattle.part_file.specs.Fronts.{front_in}
use Rattle.tex_shelf.proofs.StopLemmas.{exit_fault}
use Rattle.part_file.proofs.reading.read_front.Goals as goal

pub returns-in_err-front-clause-reads : goal.returns-in_err-front-clause-reads
returns-in_err-front-clause-reads g c = λ input e.
    let cut = taken_told 132 c.in_ok-taken.taken _ input _ _ c.in_ok-taken.ensures.taken e in
    exit_fault _ _ _ _ c.from_residual-in_err-front.result c.in_err-front.field-0.0
    c.from_residual-in_err-front.ensures.1
    (ap front_in (sym cut.front) ∙ sym c.front_in.ensures.exact ∙ c.in_err-front.was)

pub returns-clause-reads : goal.returns-clause-reads
returns-clause-reads g c = λ input e.
    let cut = taken_told 132 c.in_ok-taken.taken _ input _ _ c.in_ok-taken.ensures.taken e in
    (cut.left_is, ap front_in (sym cut.front) ∙ sym c.front_in.ensures.exact ∙ c.in_ok-front.was)
