-- The rows of blocks of a texture, put after its header.
use Rattle.std.proofs.Common.{◌≡◌, ℕ, ◌+◌, ◌-◌, ◌≤◌, List, [], ◌∷◌, ◌++◌, take, drop, refl, sym, ◌∙◌, ap, arith, append_assoc}
use Rattle.std.specs.List.{flat_map}
use Rattle.std.proofs.lemmas.List.{append-nil}
use Rattle.texture.specs.declared.shape.Shape.{Shape}
use Rattle.texture.specs.Shapes.{image_count, all_blocks}
use Rattle.texture.specs.declared.rows.BlockRow.{BlockRow}
use Rattle.texture.specs.Rows.{block_rows}
use Rattle.texture.specs.Walks.{blocks_in}
use Rattle.texture.proofs.WalkLaws.{blocks-all}
use Rattle.ktx_file.specs.Framing.{header_of}
use Rattle.ktx_file.specs.Files.{ktx, written_levels}
use Rattle.packed_levels.specs.Rows.{row_bytes, rows_bytes}
use Rattle.packed_levels.proofs.RowsLaws.{rows-both, rows-written}
use Rattle.packed_levels.proofs.RowSteps.{IsNext, blocks-both}

pub ktx-is : (shape : Shape) (blocks : List (List ℕ)) → ktx shape blocks
    ≡ header_of shape ++ written_levels shape 0 shape.levels blocks
unfolding ktx
ktx-is shape blocks = refl

pub header-first : (shape : Shape) (blocks : List (List ℕ)) (header : List ℕ) → header
    ≡ header_of shape → header ++ written_levels shape 0 shape.levels blocks ≡ ktx shape blocks
header-first shape blocks header is =
    ap (λ bytes. bytes ++ written_levels shape 0 shape.levels blocks) is ∙ sym (ktx-is shape blocks)

-- the header, the rows that were put, and those that are left
pub ktx-split : (shape : Shape) (blocks : List (List ℕ)) (rows later : List BlockRow)
    → 1 ≤ image_count shape → rows ++ later ≡ block_rows shape
    → (header_of shape ++ rows_bytes shape rows blocks) ++ rows_bytes shape later
    (drop (blocks_in rows) blocks) ≡ ktx shape blocks
ktx-split shape blocks rows later some all =
    append_assoc (header_of shape) (rows_bytes shape rows blocks)
    (rows_bytes shape later (drop (blocks_in rows) blocks))
    ∙ ap (λ bytes. header_of shape ++ bytes) (sym (rows-both shape rows later blocks)
    ∙ ap (λ xs. rows_bytes shape xs blocks) all ∙ rows-written shape blocks some)
    ∙ sym (ktx-is shape blocks)

-- all rows were put
pub ktx-all : (shape : Shape) (blocks : List (List ℕ)) (rows : List BlockRow)
    → 1 ≤ image_count shape → rows ≡ block_rows shape
    → header_of shape ++ rows_bytes shape rows blocks ≡ ktx shape blocks
ktx-all shape blocks rows some all =
    ap (λ bytes. header_of shape ++ bytes) (ap (λ xs. rows_bytes shape xs blocks) all
    ∙ rows-written shape blocks some) ∙ sym (ktx-is shape blocks)

-- a row of blocks, from its first one on
module _ (shape : Shape) (blocks own : List (List ℕ)) (rows later : List BlockRow) (row : BlockRow)
    (next : IsNext shape rows row later)
    (is : own ≡ take (row.first + row.columns - row.first) (drop row.first blocks)) where
  own-is : own ≡ take row.columns (drop (blocks_in rows) blocks)
  own-is =
      let size : row.first + row.columns - row.first ≡ row.columns = omega arith in
      is ∙ ap (λ n. take n (drop row.first blocks)) size
      ∙ ap (λ n. take row.columns (drop n blocks)) next.behind.first_is

  pub row-more : (header_of shape ++ rows_bytes shape rows blocks) ++ row_bytes shape row
      (flat_map (λ block. block) own) ≡ header_of shape ++ rows_bytes shape
      (rows ++ row ∷ []) blocks
  row-more =
      append_assoc (header_of shape) (rows_bytes shape rows blocks)
      (row_bytes shape row (flat_map (λ block. block) own))
      ∙ ap (λ bytes. header_of shape ++ bytes) (
      ap (λ xs. rows_bytes shape rows blocks ++ row_bytes shape row (flat_map (λ block. block) xs))
      own-is
      ∙ ap (λ bytes. rows_bytes shape rows blocks ++ bytes)
      (sym (append-nil (row_bytes shape row
      (flat_map (λ block. block)
      (take row.columns (drop (blocks_in rows) blocks))))))
      ∙ sym (rows-both shape rows (row ∷ []) blocks)
      )

  -- and what is left behind it
  pub row-rest : (header_of shape ++ rows_bytes shape rows blocks)
      ++ (row_bytes shape row (flat_map (λ block. block) own) ++ rows_bytes shape later
      (drop row.columns (drop (blocks_in rows) blocks))) ≡ ktx shape blocks
  row-rest =
      ap (λ xs. (header_of shape ++ rows_bytes shape rows blocks)
      ++ (row_bytes shape row (flat_map (λ block. block) xs) ++ rows_bytes shape later
      (drop row.columns (drop (blocks_in rows) blocks)))) own-is
      ∙ ktx-split shape blocks rows (row ∷ later) next.some next.rows

-- it ends within the blocks
pub row-within : (shape : Shape) (rows later : List BlockRow) (row : BlockRow)
    → IsNext shape rows row later → row.first + row.columns ≤ all_blocks shape
row-within shape rows later row next =
    omega (
      arith,
      next.behind.first_is,
      ap blocks_in next.rows,
      blocks-all shape next.some,
      blocks-both rows
          (row ∷ later),
    )
