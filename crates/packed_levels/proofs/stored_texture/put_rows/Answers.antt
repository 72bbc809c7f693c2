use Rattle.std.proofs.Common.{◌++◌, refl, sym, ◌∙◌, ap, subst, arith}
use Rattle.std.proofs.lemmas.List.{append-nil}
use Rattle.tex_shelf.specs.Files.{with_more}
use Rattle.texture.specs.Shapes.{IsValid}
use Rattle.texture.proofs.ShapeLaws.{images-some}
use Rattle.ktx_file.specs.Framing.{header_of}
use Rattle.ktx_file.specs.Files.{ktx}
use Rattle.outcomes.specs.Causes.{Stopped, IsPartlyPut}
use Rattle.outcomes.proofs.PieceLaws.{puts-error, put-more, stopped-more, stopped-put}
use Rattle.packed_levels.specs.Rows.{rows_bytes}
use Rattle.packed_levels.proofs.PuttingLaws.{stopped-before, writes-on}
use Rattle.packed_levels.proofs.RowSteps.{next-row, all-rows}
use Rattle.packed_levels.proofs.StoredLaws.{header-first, ktx-all, row-more, row-rest, row-within}
use Rattle.packed_levels.proofs.stored_texture.put_rows.Goals as goal

pub returns-in_err-put_all-clause-puts : goal.returns-in_err-put_all-clause-puts
returns-in_err-put_all-clause-puts g c =
    puts-error c.from_residual.result _ _ _ _ _ _ c.in_err-put_all.field-0.0
    c.from_residual.ensures.1
    (stopped-before _ _ _ c.header.result _ (ktx c.args.layout.now c.args.blocks.now) _ _
    c.in_err-put_all.field-0.0
    (header-first c.args.layout.now c.args.blocks.now c.header.result (c.header.ensures
    ∙ ap header_of c.shape.ensures.same))
    (stopped-put _ _ _ c.in_err-put_all.field-0.0 c.in_err-put_all.ensures.partly
    c.in_err-put_all.ensures.failed))

pub loop-row-init : goal.loop-row-init
loop-row-init g c = record {
  files = c.in_ok-put_all.ensures.bytes
      ∙ ap (with_more (g.S.Shelf.files c.args.shelf.now) (g.S.Shelf.target c.args.shelf.now))
      (c.header.ensures ∙ ap header_of c.shape.ensures.same
      ∙ sym (append-nil (header_of c.args.layout.now)));
  target = c.put_all.ensures.target;
  rest = c.put_all.ensures.rest;
  rows = c.into_iter-row-iterator.ensures.into_iter_gives ∙ c.block_rows-row-items.ensures;
}

pub slice_bounds-own-end : goal.slice_bounds-own-end
slice_bounds-own-end g c =
    let next = next-row c.loop-row.yielded c.shape.ensures.same c.shape.ensures.valid
    c.loop-row.invariant.rows c.in-Some.ensures.steps in
    omega (
      arith,
      row-within c.args.layout.now c.loop-row.yielded c.next.new.self c.in-Some.row next,
      c.requires.full.count,
    )

pub put_row-requires-clause-row : goal.put_row-requires-clause-row
put_row-requires-clause-row g c =
    let next = next-row c.loop-row.yielded c.shape.ensures.same c.shape.ensures.valid
    c.loop-row.invariant.rows c.in-Some.ensures.steps in
    next.behind.there

pub returns-in_err-put_row-clause-puts : goal.returns-in_err-put_row-clause-puts
returns-in_err-put_row-clause-puts g c =
    let shape = c.args.layout.now in
    let row = c.in-Some.row in
    let stop = c.in_err-put_row.field-0.0 in
    let next = next-row c.loop-row.yielded c.shape.ensures.same c.shape.ensures.valid
    c.loop-row.invariant.rows c.in-Some.ensures.steps in
    puts-error c.from_residual-in_err-put_row.result _ _ _ _ _ _ stop
    c.from_residual-in_err-put_row.ensures.1
    (subst (λ bytes. Stopped (g.S.Shelf.write_faults c.args.shelf.now)
    (g.S.Shelf.write_faults c.put_row.new.shelf)
    (IsPartlyPut (g.S.Shelf.files c.args.shelf.now)
    (g.S.Shelf.target c.args.shelf.now) bytes (g.S.Shelf.files c.put_row.new.shelf))
    stop)
    (row-rest shape c.args.blocks.now _ c.loop-row.yielded c.next.new.self row next refl)
    (stopped-more _ _ _ _ _
    (header_of shape ++ rows_bytes shape c.loop-row.yielded c.args.blocks.now) _ _ _ _ _
    stop c.loop-row.invariant.files c.loop-row.invariant.target
    c.loop-row.invariant.rest.write_faults
    (rw c.as_flattened.ensures.value at c.in_err-put_row.ensures.puts)))

pub loop-row-preserved : goal.loop-row-preserved
loop-row-preserved g c =
    let shape = c.args.layout.now in
    let row = c.in-Some.row in
    let next = next-row c.loop-row.yielded c.shape.ensures.same c.shape.ensures.valid
    c.loop-row.invariant.rows c.in-Some.ensures.steps in
    record {
      files = put-more _ _ _ _ _
          (header_of shape ++ rows_bytes shape c.loop-row.yielded c.args.blocks.now) _
          c.loop-row.invariant.files c.loop-row.invariant.target
          (rw c.as_flattened.ensures.value at c.in_ok-put_row.ensures.puts)
          ∙ ap (with_more (g.S.Shelf.files c.args.shelf.now) (g.S.Shelf.target c.args.shelf.now))
          (row-more shape c.args.blocks.now _ c.loop-row.yielded c.next.new.self row next refl);
      target = c.put_row.ensures.target ∙ c.loop-row.invariant.target;
      rest = writes-on g.S.Shelf _ _ _ c.loop-row.invariant.rest c.put_row.ensures.rest;
      rows = next.rows_on;
    }

pub returns-clause-puts : goal.returns-clause-puts
returns-clause-puts g c =
    let shape = c.args.layout.now in
    c.loop-row.invariant.files
    ∙ ap (with_more (g.S.Shelf.files c.args.shelf.now) (g.S.Shelf.target c.args.shelf.now))
    (ktx-all shape c.args.blocks.now c.loop-row.yielded
    (images-some shape (subst IsValid c.shape.ensures.same c.shape.ensures.valid))
    (all-rows shape c.loop-row.yielded c.loop-row.invariant.rows c.in-None.ensures.steps.0))

pub returns-in_err-put_row-clause-rest : goal.returns-in_err-put_row-clause-rest
returns-in_err-put_row-clause-rest g c =
    writes-on g.S.Shelf _ _ _ c.loop-row.invariant.rest c.put_row.ensures.rest
