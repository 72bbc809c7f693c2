use Rattle.std.proofs.Common.{◌≡◌, ◌+◌, ◌*◌, ◌++◌, ◌∙◌, Ok, Err, Some, [], ℕ, length, drop, ap, sym, refl, arith, cond, length-drop}
use Rattle.std.proofs.lemmas.List.{nil_from_length}
use Rattle.tex_shelf.specs.Pieces.{pieces_at}
use Rattle.tex_shelf.specs.declared.pieces.PieceFault.TheVariants.{ShortData}
use Rattle.tex_shelf.proofs.TakingLemmas.{taken_told}
use Rattle.tex_shelf.proofs.PieceLemmas.{pieces_at-take, cut_pieces, too_short, too_long, as_long}
use Rattle.tex_shelf.proofs.pieces.read_pieces.Goals as goal

pub returns-then-taken-count-clause-reads : goal.returns-then-taken-count-clause-reads
returns-then-taken-count-clause-reads g c = λ input e.
    let wanted = g.row.N * c.args.count in
    let m = c.in_ok-taken.ensures.taken in
    let cut = taken_told wanted c.in_ok-taken.taken m.0 input _ _ m.1 e in
    let short : length input ≡ c.in_ok-taken.taken =
    omega (arith, cut.size, c.if-taken-count.true) in
    too_short g.row.N c.args.count c.args.before input (omega (arith, c.if-taken-count.true))
    ∙ ap (λ n. Err (ShortData (c.args.before + n))) short

pub returns-then-not-branch-clause-reads : goal.returns-then-not-branch-clause-reads
returns-then-not-branch-clause-reads g c = λ input e.
    let wanted = g.row.N * c.args.count in
    let m = c.in_ok-taken.ensures.taken in
    let n = c.in_ok-is_at_end.ensures.taken in
    let cut = taken_told wanted c.in_ok-taken.taken m.0 input _ _ m.1 e in
    let more = taken_told 1 (cond c.in_ok-is_at_end.field-0 0 1) n.0
    (drop wanted input) _ _ n.1 cut.left_is in
    let one : ◌≡◌ {A = ℕ} (cond c.in_ok-is_at_end.field-0 0 1) 1 = rw c.if-not-branch.true refl in
    too_long g.row.N c.args.count c.args.before input
    (omega (arith, more.size, one, length-drop wanted input))

pub returns-clause-reads : goal.returns-clause-reads
returns-clause-reads g c = λ input e.
    let size = g.row.N in
    let count = c.args.count in
    let m = c.in_ok-taken.ensures.taken in
    let n = c.in_ok-is_at_end.ensures.taken in
    let full : c.in_ok-taken.taken ≡ size * count =
    omega (arith, m.1.most, c.if-taken-count.false) in
    let cut = taken_told (size * count) c.in_ok-taken.taken m.0 input _ _ m.1 e in
    let more = taken_told 1 (cond c.in_ok-is_at_end.field-0 0 1) n.0
    (drop (size * count) input) _ _ n.1 cut.left_is in
    let none : ◌≡◌ {A = ℕ} (cond c.in_ok-is_at_end.field-0 0 1) 0 = rw c.if-not-branch.false refl in
    let empty : drop (size * count) input ≡ [] = nil_from_length (drop (size * count) input)
    (omega (arith, more.size, none)) in
    let same : c.take_pieces.new.pieces.items ≡ pieces_at size count input =
    m.2 full ∙ ap (λ ps. ps ++ pieces_at size count m.0) c.new-pieces.ensures.items
    ∙ ap (pieces_at size count) cut.front ∙ pieces_at-take size count input
    (omega (arith, cut.size)) in (
      more.left_is ∙ ap (λ bytes. Some (drop 1 bytes)) empty,
      as_long size count c.args.before input (omega (arith, cut.size)) empty ∙ ap Ok (sym same),
    )

pub returns-clause-full : goal.returns-clause-full
returns-clause-full g c =
    let m = c.in_ok-taken.ensures.taken in
    let full : c.in_ok-taken.taken ≡ g.row.N * c.args.count =
    omega (arith, m.1.most, c.if-taken-count.false) in
    cut_pieces g.row.N c.args.count m.0 c.take_pieces.new.pieces.items (m.1.count ∙ full)
    (m.2 full ∙ ap (λ ps. ps ++ pieces_at g.row.N c.args.count m.0) c.new-pieces.ensures.items)
