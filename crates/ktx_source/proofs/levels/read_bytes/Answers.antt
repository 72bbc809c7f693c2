use Rattle.std.proofs.Common.{◌≡◌, ◌≤◌, ◌++◌, ◌∙◌, List, ℕ, length, ap, sym, arith}
use Rattle.tex_shelf.proofs.TakingLemmas.{taken_told}
use Rattle.ktx_header.proofs.ReadingLemmas.{enough_told, enough_ok}
use Rattle.ktx_source.proofs.levels.read_bytes.Goals as goal

pub returns-clause-reads : goal.returns-clause-reads
returns-clause-reads g c = λ input e.
    let count = c.args.count in
    let m = c.in_ok-taken.ensures.taken in
    let cut = taken_told count c.in_ok-taken.taken m.0 input _ _ m.1 e in (
      cut.left_is,
      (
        sym (enough_told count c.in_ok-taken.taken (length input) c.args.before cut.size)
            ∙ sym c.enough.ensures ∙ c.in_ok-enough.was,
        m.2 ∙ ap (λ (xs : List ℕ). xs ++ m.0) c.new-bytes.ensures.items ∙ cut.front,
      ),
    )

pub returns-clause-full : goal.returns-clause-full
returns-clause-full g c =
    let count = c.args.count in
    let m = c.in_ok-taken.ensures.taken in
    let all : count ≤ c.in_ok-taken.taken = enough_ok count c.in_ok-taken.taken c.args.before
    (sym c.enough.ensures ∙ c.in_ok-enough.was) in
    let these : c.take_growing.new.bytes.items ≡ m.0 = m.2
    ∙ ap (λ (xs : List ℕ). xs ++ m.0) c.new-bytes.ensures.items in
    omega (arith, m.1.most, m.1.count, ap length these)
