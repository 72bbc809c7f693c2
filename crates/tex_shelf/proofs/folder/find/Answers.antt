use Rattle.std.proofs.Common.{Some, refl, sym, ◌∙◌, ap}
use Rattle.std.proofs.lemmas.List.{nil_from_length}
use Rattle.std.specs.Ordering.{nat_cmp}
use Rattle.std.specs.Cmp.Lexicographic.{slice_cmp}
use Rattle.std.specs.FinMap.{get-empty}
use Rattle.std.specs.VecDeque.Iter.{deque_iter_rest}
use Rattle.tex_shelf.specs.Files.{file_at}
use Rattle.tex_shelf.specs.Log.{filed}
use Rattle.tex_shelf.proofs.LogLemmas.{refuted, file_at-first, file_at-later}
use Rattle.tex_shelf.proofs.folder.find.Goals as goal

pub returns-then-is_named : goal.returns-then-is_named
returns-then-is_named c =
    sym (c.loop-entry.invariant
    ∙ ap (λ log. file_at (filed log) c.args.name.now) c.in-Some.ensures.steps
    ∙ file_at-first (deque_iter_rest c.next.new.self) c.in-Some.entry.now c.args.name.now
    (c.if-is_named.ensures.0 refl)
    ∙ ap Some (sym c.as_slice.ensures.value))

pub loop-entry-preserved : goal.loop-entry-preserved
loop-entry-preserved c =
    c.loop-entry.invariant
    ∙ ap (λ log. file_at (filed log) c.args.name.now) c.in-Some.ensures.steps
    ∙ file_at-later (deque_iter_rest c.next.new.self) c.in-Some.entry.now c.args.name.now
    (refuted c.if-is_named.ensures)

pub returns : goal.returns
returns c =
    sym (c.loop-entry.invariant
    ∙ ap (λ log. file_at (filed log) c.args.name.now)
    (nil_from_length (deque_iter_rest c.loop-entry.entry-iterator) c.in-None.ensures.steps.0)
    ∙ get-empty (slice_cmp nat_cmp) c.args.name.now)
