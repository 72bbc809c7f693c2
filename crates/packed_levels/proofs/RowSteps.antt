-- The steps of a walk over the rows of blocks of a texture.
use Rattle.std.proofs.Common.{◌≡◌, ◌+◌, ◌≤◌, List, [], ◌∷◌, ◌++◌, sym, ◌∙◌, ap, subst, arith, append_assoc}
use Rattle.std.proofs.lemmas.List.{append-nil}
use Rattle.texture.specs.declared.shape.Shape.{Shape}
use Rattle.texture.specs.Shapes.{IsValid, image_count}
use Rattle.texture.specs.declared.rows.BlockRow.{BlockRow}
use Rattle.texture.specs.Rows.{block_rows}
use Rattle.texture.specs.Walks.{blocks_in, levels_in, IsBehind}
use Rattle.texture.proofs.ShapeLaws.{images-some}
use Rattle.texture.proofs.WalkLaws.{row-behind}

-- a row of a texture, between the rows that are done and those that are left
pub record IsNext (shape : Shape) (done : List BlockRow) (row : BlockRow)
    (left : List BlockRow) : Type 0 where
  pub some : 1 ≤ image_count shape
  pub behind : IsBehind shape (blocks_in done) (levels_in done) row
  pub rows : done ++ row ∷ left ≡ block_rows shape
  pub rows_on : (done ++ row ∷ []) ++ left ≡ block_rows shape

-- the row that a step of the walk gives
pub next-row : {shape known : Shape} {left later : List BlockRow} {row : BlockRow}
    (done : List BlockRow) → known ≡ shape → IsValid known → done ++ left ≡ block_rows shape
    → left ≡ row ∷ later → IsNext shape done row later
next-row {shape = shape} {later = later} {row = row} done same valid walk step =
    let some : 1 ≤ image_count shape = images-some shape (subst IsValid same valid) in
    let rows : done ++ row ∷ later ≡ block_rows shape = ap (λ xs. done ++ xs) (sym step) ∙ walk in
    record {
      some = some;
      behind = row-behind shape done row later some rows;
      rows = rows;
      rows_on = append_assoc done (row ∷ []) later ∙ rows;
    }

-- no row is left
pub all-rows : {left : List BlockRow} (shape : Shape) (done : List BlockRow)
    → done ++ left ≡ block_rows shape → left ≡ [] → done ≡ block_rows shape
all-rows shape done walk step = sym (append-nil done) ∙ ap (λ xs. done ++ xs) (sym step) ∙ walk

pub blocks-both : (xs ys : List BlockRow) → blocks_in (xs ++ ys) ≡ blocks_in xs + blocks_in ys
blocks-both [] ys = omega arith
blocks-both (x ∷ xs) ys = omega (arith, blocks-both xs ys)
