use Rattle.std.proofs.Common.{◌≡◌, ◌≤◌, ◌*◌, ◌++◌, ◌∙◌, length, ap, sym, arith}
use Rattle.tex_shelf.specs.Pieces.{pieces_at}
use Rattle.tex_shelf.proofs.TakingLemmas.{taken_told}
use Rattle.ktx_header.proofs.ReadingLemmas.{enough_told, enough_ok}
use Rattle.ktx_file.proofs.BlockLemmas.{grown_by}
use Rattle.ktx_file.proofs.levels.read_blocks.Goals as goal

pub returns-clause-reads : goal.returns-clause-reads
returns-clause-reads g c = λ input e.
    let count = c.args.count in
    let m = c.in_ok-taken.ensures.taken in
    let all : 16 * count ≤ c.in_ok-taken.taken =
    enough_ok (16 * count) c.in_ok-taken.taken c.args.before (sym c.enough.ensures
    ∙ c.in_ok-enough.was) in
    let full : c.in_ok-taken.taken ≡ 16 * count = omega (arith, m.1.most) in
    let cut = taken_told (16 * count) c.in_ok-taken.taken m.0 input _ _ m.1 e in (
      cut.left_is,
      (
        sym (enough_told (16 * count) c.in_ok-taken.taken (length input) c.args.before cut.size)
            ∙ sym c.enough.ensures ∙ c.in_ok-enough.was,
        m.2 full ∙ ap (λ bs. c.args.blocks.now.items ++ pieces_at 16 count bs) cut.front,
      ),
    )

pub returns-clause-grown : goal.returns-clause-grown
returns-clause-grown g c =
    let count = c.args.count in
    let m = c.in_ok-taken.ensures.taken in
    let all : 16 * count ≤ c.in_ok-taken.taken =
    enough_ok (16 * count) c.in_ok-taken.taken c.args.before (sym c.enough.ensures
    ∙ c.in_ok-enough.was) in
    let full : c.in_ok-taken.taken ≡ 16 * count = omega (arith, m.1.most) in
    grown_by count c.args.blocks.now.items c.take_pieces.new.pieces.items m.0 (m.1.count ∙ full)
    (m.2 full)
