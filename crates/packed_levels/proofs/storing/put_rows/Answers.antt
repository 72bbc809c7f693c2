use Rattle.std.proofs.Common.{◌<◌, refl, ◌∙◌, ap, subst, arith, rules}
use Rattle.texture.specs.Shapes.{IsValid}
use Rattle.texture.proofs.ShapeLaws.{images-some}
use Rattle.ktx_file.specs.Framing.{header_of}
use Rattle.packed_levels.specs.Settling.{way_of}
use Rattle.packed_levels.proofs.ServingLaws.{serves_if-ready, serves_if-further}
use Rattle.packed_levels.proofs.SourceLaws.{images-there, settles-named}
use Rattle.packed_levels.proofs.RowSteps.{next-row, all-rows}
use Rattle.outcomes.proofs.PieceLaws.{stopped-put}
use Rattle.packed_levels.proofs.PuttingLaws.{err-is, writes-on}
use Rattle.tex_shelf.specs.declared.stop.ShelfStop.TheVariants.{NoMemory}
use Rattle.packed_levels.proofs.FrontLaws.{put-first, put-next, framed-all, header-stopped, stopped-between, stopped-within}
use Rattle.packed_levels.proofs.storing.put_rows.Goals as goal

pub returns-in_err-put_all-clause-puts : goal.returns-in_err-put_all-clause-puts
returns-in_err-put_all-clause-puts g c =
    rw (err-is c.from_residual.result _ c.from_residual.ensures.1)
    (header-stopped c.args.layout.now c.args.packer.now c.args.levels.now c.header.result _ _ _ _ _
    c.in_err-put_all.field-0.0
    (images-some c.args.layout.now (subst IsValid c.shape.ensures.same c.shape.ensures.valid))
    (c.header.ensures ∙ ap header_of c.shape.ensures.same)
    (stopped-put _ _ _ c.in_err-put_all.field-0.0 c.in_err-put_all.ensures.partly
    c.in_err-put_all.ensures.failed))

pub loop-row-init : goal.loop-row-init
loop-row-init g c = record {
  put = rw c.new-errors.ensures.items
      (put-first c.args.layout.now c.args.packer.now c.args.levels.now _ _ _ _ c.header.result
      (c.header.ensures ∙ ap header_of c.shape.ensures.same) c.in_ok-put_all.ensures.bytes);
  rows = c.into_iter-row-iterator.ensures.into_iter_gives ∙ c.block_rows-row-items.ensures;
  untouched = λ no. refl;
  target = c.put_all.ensures.target;
  rest = c.put_all.ensures.rest;
}

pub bounds-levels-row : goal.bounds-levels-row
bounds-levels-row g c =
    let next = next-row c.loop-row.yielded c.shape.ensures.same c.shape.ensures.valid
    c.loop-row.invariant.rows c.in-Some.ensures.steps in
    omega (arith, next.behind.there.level_in, c.requires.levels.count)

pub fill_row-requires : goal.fill_row-requires
fill_row-requires g c =
    let next = next-row c.loop-row.yielded c.shape.ensures.same c.shape.ensures.valid
    c.loop-row.invariant.rows c.in-Some.ensures.steps in
    let there = next.behind.there in
    let images = images-there c.in-Some.row.level c.requires.levels there.level_in
    c.index-levels-row.is in
    let image : c.in-Some.row.image < c.index-levels-row.result.count =
    omega (
      arith,
      there.image_in,
      ap (λ i. i.count) images,
      c.requires.levels.counts c.in-Some.row.level
          there.level_in,
    ) in
    search rules

pub returns-in_err-fill_row-clause-puts : goal.returns-in_err-fill_row-clause-puts
returns-in_err-fill_row-clause-puts g c =
    let next = next-row c.loop-row.yielded c.shape.ensures.same c.shape.ensures.valid
    c.loop-row.invariant.rows c.in-Some.ensures.steps in
    rw (err-is c.from_residual-in_err-fill_row.result NoMemory
    c.from_residual-in_err-fill_row.ensures.1)
    (stopped-between c.args.layout.now c.args.packer.now c.args.levels.now c.loop-row.yielded
    c.next.new.self c.in-Some.row next _ _ _ _ _ _ c.loop-row.invariant.put)

pub returns-in_err-fill_row-clause-kept : goal.returns-in_err-fill_row-clause-kept
returns-in_err-fill_row-clause-kept g c =
    serves_if-further (way_of c.args.layout.now.name c.args.packer.now) c.args.packer.now.advised _
    _ _ c.loop-row.invariant.put.done c.loop-row.invariant.put.serves
    (rw c.requires.sides c.fill_row.ensures.kept)

pub loop-row-preserved : goal.loop-row-preserved
loop-row-preserved g c =
    let shape = c.args.layout.now in
    let row = c.in-Some.row in
    let next = next-row c.loop-row.yielded c.shape.ensures.same c.shape.ensures.valid
    c.loop-row.invariant.rows c.in-Some.ensures.steps in
    let images = images-there row.level c.requires.levels next.behind.there.level_in
    c.index-levels-row.is in
    record {
      put = put-next shape c.args.packer.now c.args.levels.now c.loop-row.yielded row _ _ _ _ _ _ _
          _ c.fill_row.new.bytes.items c.loop-row.errors.items _ c.loop-row.invariant.put
          c.loop-row.invariant.target
          (settles-named g.row.W g.row.H shape c.args.packer.now c.args.levels.now
          c.index-levels-row.result row _ _ _ _ _ c.requires.sides images
          c.in_ok-fill_row.ensures.settles)
          (rw c.deref.ensures.value at c.in_ok-put_row.ensures.puts);
      rows = next.rows_on;
      untouched = λ no. c.fill_row.ensures.untouched no ∙ c.loop-row.invariant.untouched no;
      target = c.put_row.ensures.target ∙ c.loop-row.invariant.target;
      rest = writes-on g.S.Shelf _ _ _ c.loop-row.invariant.rest c.put_row.ensures.rest;
    }

pub returns-in_err-put_row-clause-puts : goal.returns-in_err-put_row-clause-puts
returns-in_err-put_row-clause-puts g c =
    let shape = c.args.layout.now in
    let row = c.in-Some.row in
    let next = next-row c.loop-row.yielded c.shape.ensures.same c.shape.ensures.valid
    c.loop-row.invariant.rows c.in-Some.ensures.steps in
    let images = images-there row.level c.requires.levels next.behind.there.level_in
    c.index-levels-row.is in
    rw (err-is c.from_residual-in_err-put_row.result _ c.from_residual-in_err-put_row.ensures.1)
    (stopped-within shape c.args.packer.now c.args.levels.now c.loop-row.yielded c.next.new.self row
    next _ _ _ _ _ _ c.loop-row.invariant.put _ _ _ c.fill_row.new.bytes.items _ _ _ _
    c.in_err-put_row.field-0.0
    c.loop-row.invariant.target c.loop-row.invariant.rest.write_faults
    (settles-named g.row.W g.row.H shape c.args.packer.now c.args.levels.now
    c.index-levels-row.result row _ _ _ _ _ c.requires.sides images
    c.in_ok-fill_row.ensures.settles)
    (rw c.deref.ensures.value at c.in_err-put_row.ensures.puts))

pub returns-in_err-put_row-clause-kept : goal.returns-in_err-put_row-clause-kept
returns-in_err-put_row-clause-kept g c =
    serves_if-further (way_of c.args.layout.now.name c.args.packer.now) c.args.packer.now.advised _
    _ _ c.loop-row.invariant.put.done c.loop-row.invariant.put.serves
    (rw c.requires.sides c.fill_row.ensures.kept)

pub put_row-requires-clause-row : goal.put_row-requires-clause-row
put_row-requires-clause-row g c =
    let next = next-row c.loop-row.yielded c.shape.ensures.same c.shape.ensures.valid
    c.loop-row.invariant.rows c.in-Some.ensures.steps in
    next.behind.there

pub returns-clause-puts : goal.returns-clause-puts
returns-clause-puts g c =
    let shape = c.args.layout.now in
    framed-all shape c.args.packer.now c.args.levels.now c.loop-row.yielded _ _ _ _ _ _
    (images-some shape (subst IsValid c.shape.ensures.same c.shape.ensures.valid))
    (all-rows shape c.loop-row.yielded c.loop-row.invariant.rows c.in-None.ensures.steps.0)
    c.loop-row.invariant.put

pub returns-clause-kept : goal.returns-clause-kept
returns-clause-kept g c =
    serves_if-ready (way_of c.args.layout.now.name c.args.packer.now) c.args.packer.now.advised _ _
    c.loop-row.invariant.put.done c.loop-row.invariant.put.serves
