use Rattle.std.proofs.Common.{◌≡◌, ◌++◌, [], ◌∷◌, length, take, drop, refl, sym, ◌∙◌, ap, subst, arith, rules, append_assoc}
use Rattle.std.specs.List.{flat_map}
use Rattle.std.proofs.lemmas.List.{append-nil}
use Rattle.std.proofs.lemmas.List.Concat.{flat_map-append}
use Rattle.tex_shelf.specs.Files.{with_more}
use Rattle.tex_shelf.specs.declared.stop.ShelfStop.TheVariants.{NoMemory}
use Rattle.astc_model.specs.FootprintNames.{sides_of}
use Rattle.texture.specs.Shapes.{IsValid}
use Rattle.texture.specs.Rows.{block_rows}
use Rattle.texture.specs.Walks.{blocks_in}
use Rattle.texture.proofs.ShapeLaws.{images-some}
use Rattle.texture.proofs.WalkLaws.{row-behind}
use Rattle.outcomes.specs.Causes.{Stopped, IsPartlyPut}
use Rattle.outcomes.proofs.PieceLaws.{put-none, put-more, puts-error, stopped-more, stopped-put}
use Rattle.unpacking.specs.Bands.{faults_of}
use Rattle.unpacking.specs.Unpacked.{piece_of, row_faults}
use Rattle.unpacking.proofs.BandLaws.{faults-both}
use Rattle.unpacking.proofs.FileLaws.{next-rows, all-rows, blocks_in-more, file-pieces, pieces-both, part-put, faults-all}
use Rattle.unpacking.proofs.storing.put_rows.Goals as goal

pub loop-row-init : goal.loop-row-init
loop-row-init g c = record {
  files = put-none (g.S.Shelf.files c.args.shelf.now) (g.S.Shelf.target c.args.shelf.now);
  target = refl;
  rest = search rules;
  rows = c.into_iter-row-iterator.ensures.into_iter_gives ∙ c.block_rows-row-items.ensures
      ∙ ap block_rows c.layout.ensures;
  faults = c.new-faults.ensures.items;
}

pub fill-requires-clause-row : goal.fill-requires-clause-row
fill-requires-clause-row g c =
    let shape = c.args.ktx.now.shape in
    (row-behind shape c.loop-row.yielded c.in-Some.row c.next.new.self
    (images-some shape (subst IsValid c.shape.ensures.same c.shape.ensures.valid))
    (next-rows shape c.loop-row.yielded c.loop-row.invariant.rows c.in-Some.ensures.steps)).there

pub returns-in_err-fill-clause-puts : goal.returns-in_err-fill-clause-puts
returns-in_err-fill-clause-puts g c =
    puts-error c.from_residual.result _ _ _ _ _ _ NoMemory c.from_residual.ensures.1
    (part-put c.args.ktx.now c.loop-row.yielded c.loop-row.row-iterator _ _ _
    c.loop-row.invariant.rows c.loop-row.invariant.files)

pub loop-row-preserved : goal.loop-row-preserved
loop-row-preserved g c =
    let file = c.args.ktx.now in
    let row = c.in-Some.row in
    let done = c.loop-row.yielded in
    let sides = sides_of file.shape.name in
    let before = c.loop-row.invariant.rest in
    let put = c.in_ok-put_all.ensures.rest in
    let rows = next-rows file.shape done c.loop-row.invariant.rows c.in-Some.ensures.steps in
    let behind = row-behind file.shape done row c.next.new.self
    (images-some file.shape (subst IsValid c.shape.ensures.same c.shape.ensures.valid)) rows in
    let longer : flat_map (piece_of file) done ++ piece_of file row
    ≡ flat_map (piece_of file) (done ++ row ∷ []) =
    ap (λ bytes. flat_map (piece_of file) done ++ bytes) (sym (append-nil (piece_of file row)))
    ∙ sym (flat_map-append (piece_of file) done (row ∷ [])) in
    record {
      files = put-more _ _ _ _ _ (flat_map (piece_of file) done)
          (piece_of file row) c.loop-row.invariant.files c.loop-row.invariant.target
          (rw (c.deref.ensures.value, c.in_ok-fill.ensures.bytes) at c.in_ok-put_all.ensures.bytes)
          ∙ ap (λ bytes. with_more (g.S.Shelf.files c.args.shelf.now)
          (g.S.Shelf.target c.args.shelf.now) bytes) longer;
      target = c.in_ok-put_all.ensures.target ∙ c.loop-row.invariant.target;
      rest = record {
        read_faults = put.read_faults ∙ before.read_faults;
        write_faults = omega (arith, before.write_faults, put.write_faults);
        can_open = λ name can. put.can_open name (before.can_open name can);
        can_create = λ name can. put.can_create name (before.can_create name can);
        can_put = λ can. put.can_put (before.can_put can);
      };
      rows = append_assoc done (row ∷ []) c.next.new.self ∙ rows;
      faults = c.in_ok-fill.ensures.faults
          ∙ ap (λ faults. faults ++ row_faults file row) c.loop-row.invariant.faults
          ∙ ap (λ n. faults_of sides.0 sides.1 (take (blocks_in done) file.blocks)
          ++ faults_of sides.0 sides.1 (take row.columns (drop n file.blocks)))
          behind.first_is
          ∙ faults-both sides.0 sides.1 (blocks_in done) row.columns file.blocks
          ∙ ap (λ n. faults_of sides.0 sides.1 (take n file.blocks))
          (sym (blocks_in-more done row));
    }

pub returns-in_err-put_all-clause-puts : goal.returns-in_err-put_all-clause-puts
returns-in_err-put_all-clause-puts g c =
    let file = c.args.ktx.now in
    let row = c.in-Some.row in
    let stop = c.in_err-put_all.field-0.0 in
    let rows = next-rows file.shape c.loop-row.yielded c.loop-row.invariant.rows
    c.in-Some.ensures.steps in
    let piece : c.deref.result.now ≡ piece_of file row = c.deref.ensures.value
    ∙ c.in_ok-fill.ensures.bytes in
    puts-error c.from_residual-in_err-put_all.result _ _ _ _ _ _ stop
    c.from_residual-in_err-put_all.ensures.1
    (subst (λ bytes. Stopped (g.S.Shelf.write_faults c.args.shelf.now)
    (g.S.Shelf.write_faults c.put_all.new.shelf)
    (IsPartlyPut (g.S.Shelf.files c.args.shelf.now)
    (g.S.Shelf.target c.args.shelf.now) bytes (g.S.Shelf.files c.put_all.new.shelf))
    stop)
    (pieces-both file c.loop-row.yielded (row ∷ c.next.new.self) rows)
    (stopped-more _ _ _ _ _ (flat_map (piece_of file) c.loop-row.yielded) (piece_of file row)
    (flat_map (piece_of file) c.next.new.self) _ _ _ stop c.loop-row.invariant.files
    c.loop-row.invariant.target c.loop-row.invariant.rest.write_faults
    (stopped-put (IsPartlyPut (g.S.Shelf.files c.loop-row.shelf) (g.S.Shelf.target c.loop-row.shelf)
    (piece_of file row) (g.S.Shelf.files c.put_all.new.shelf)) _ _ stop
    (rw piece at c.in_err-put_all.ensures.partly) c.in_err-put_all.ensures.failed)))

pub images_told-requires : goal.images_told-requires
images_told-requires g c =
    let file = c.args.ktx.now in
    c.deref-2.ensures.value ∙ c.loop-row.invariant.faults
    ∙ faults-all file c.loop-row.yielded (subst IsValid c.shape.ensures.same c.shape.ensures.valid)
    (ap (λ blocks. length blocks) (sym c.blocks-2.ensures.same) ∙ c.blocks-2.ensures.full.count)
    (all-rows file.shape c.loop-row.yielded c.loop-row.invariant.rows c.in-None.ensures.steps.0)

pub returns-in_err-images_told-clause-puts : goal.returns-in_err-images_told-clause-puts
returns-in_err-images_told-clause-puts g c =
    puts-error c.from_residual-in_err-images_told.result _ _ _ _ _ _ NoMemory
    c.from_residual-in_err-images_told.ensures.1
    (part-put c.args.ktx.now c.loop-row.yielded c.loop-row.row-iterator _ _ _
    c.loop-row.invariant.rows c.loop-row.invariant.files)

pub returns-clause-puts : goal.returns-clause-puts
returns-clause-puts g c =
    let file = c.args.ktx.now in
    c.loop-row.invariant.files
    ∙ ap (λ bytes. with_more (g.S.Shelf.files c.args.shelf.now)
    (g.S.Shelf.target c.args.shelf.now) bytes) (ap (flat_map (piece_of file))
    (all-rows file.shape c.loop-row.yielded c.loop-row.invariant.rows c.in-None.ensures.steps.0)
    ∙ file-pieces file)
