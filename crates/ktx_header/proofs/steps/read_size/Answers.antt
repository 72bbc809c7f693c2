use Rattle.std.proofs.Common.{◌≡◌, ◌≤◌, ◌∙◌, length, take, ap, sym, arith}
use Rattle.std.proofs.Math.Seq.{take_all}
use Rattle.ktx_header.specs.Levels.{right_size}
use Rattle.ktx_header.specs.Orders.{number}
use Rattle.ktx_header.proofs.LevelLemmas.{sized_first, sized_second}
use Rattle.tex_shelf.proofs.StopLemmas.{exit_fault}
use Rattle.ktx_header.proofs.ReadingLemmas.{enough_told, enough_ok}
use Rattle.tex_shelf.proofs.TakingLemmas.{taken_told}
use Rattle.ktx_header.proofs.steps.read_size.Goals as goal

pub returns-in_err-enough-clause-reads : goal.returns-in_err-enough-clause-reads
returns-in_err-enough-clause-reads g c = λ input e.
    let n = c.in_ok-taken.taken in
    let cut = taken_told 4 n _ input _ _ c.in_ok-taken.ensures.taken e in
    exit_fault _ _ _ _ c.from_residual-in_err-enough.result c.in_err-enough.field-0.0
    c.from_residual-in_err-enough.ensures.1
    (sized_first c.args.order c.args.level c.args.wanted c.args.before input
    c.in_err-enough.field-0.0
    (sym (enough_told 4 n (length input) c.args.before cut.size) ∙ sym c.enough.ensures
    ∙ c.in_err-enough.was))

pub returns-in_err-right_size-clause-reads : goal.returns-in_err-right_size-clause-reads
returns-in_err-right_size-clause-reads g c = λ input e.
    let n = c.in_ok-taken.taken in
    let cut = taken_told 4 n _ input _ _ c.in_ok-taken.ensures.taken e in
    let all : 4 ≤ n = enough_ok 4 n c.args.before (sym c.enough.ensures ∙ c.in_ok-enough.was) in
    let whole : take n c.take_full.new.into ≡ c.take_full.new.into = take_all n c.take_full.new.into
    (omega (arith, c.take_full.auto.into)) in
    exit_fault _ _ _ _ c.from_residual-in_err-right_size.result c.in_err-right_size.field-0.0
    c.from_residual-in_err-right_size.ensures.1
    (sized_second c.args.order c.args.level c.args.wanted c.args.before input _
    (sym (enough_told 4 n (length input) c.args.before cut.size) ∙ sym c.enough.ensures
    ∙ c.in_ok-enough.was)
    (ap (λ w. right_size c.args.level w c.args.wanted)
    (ap (number c.args.order) (sym cut.front ∙ whole) ∙ sym c.word.ensures)
    ∙ sym c.right_size.ensures ∙ c.in_err-right_size.was))

pub returns-clause-reads : goal.returns-clause-reads
returns-clause-reads g c = λ input e.
    let n = c.in_ok-taken.taken in
    let cut = taken_told 4 n _ input _ _ c.in_ok-taken.ensures.taken e in
    let all : 4 ≤ n = enough_ok 4 n c.args.before (sym c.enough.ensures ∙ c.in_ok-enough.was) in
    let whole : take n c.take_full.new.into ≡ c.take_full.new.into = take_all n c.take_full.new.into
    (omega (arith, c.take_full.auto.into)) in (
      cut.left_is,
      sized_second c.args.order c.args.level c.args.wanted c.args.before input _
          (sym (enough_told 4 n (length input) c.args.before cut.size) ∙ sym c.enough.ensures
          ∙ c.in_ok-enough.was)
          (ap (λ w. right_size c.args.level w c.args.wanted)
          (ap (number c.args.order) (sym cut.front ∙ whole) ∙ sym c.word.ensures)
          ∙ sym c.right_size.ensures ∙ c.in_ok-right_size.was),
    )
