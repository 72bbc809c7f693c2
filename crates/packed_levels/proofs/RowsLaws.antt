-- Rows of blocks in the order of the file: their lengths, and that all of them are the levels.
use Rattle.std.proofs.Common.{◌≡◌, ℕ, zero, suc, ◌+◌, ◌-◌, ◌*◌, ◌≤◌, ◌<◌, Bool, true, false, cond, List, [], ◌∷◌, ◌++◌, length, take, drop, map, refl, sym, ◌∙◌, ap, subst, arith, append_assoc, length-append, length-drop}
use Rattle.std.specs.Prelude.{◌==◌, ◌&&◌}
use Rattle.std.specs.List.{flat_map, range_with_len, AllByRecursion}
use Rattle.std.specs.Int.{w32, to_le_bytes}
use Rattle.std.proofs.lemmas.List.{append-nil, drop-drop, take-append-le, take_all, drop-append-le, length-take-le}
use Rattle.std.proofs.lemmas.Grind.{flat_map-append}
use Rattle.std.proofs.Math.Seq.{take-add, drop-append_seam}
use Rattle.astc_model.proofs.SumLaws.{sum_to-more}
use Rattle.tex_shelf.proofs.PieceLemmas.{length-flat, all-take, all-drop}
use Rattle.texture.specs.declared.shape.Shape.{Shape}
use Rattle.texture.specs.Shapes.{rows_of, columns_of, image_count, level_blocks}
use Rattle.texture.specs.declared.rows.BlockRow.{BlockRow}
use Rattle.texture.specs.Rows.{row_at, row_start, image_rows, level_rows, block_rows}
use Rattle.texture.specs.Walks.{level_begun, blocks_in, levels_in, Follow}
use Rattle.texture.proofs.ShapeLaws.{rows-some}
use Rattle.texture.proofs.RowLaws.{image_rows-is, level_rows-is}
use Rattle.texture.proofs.WalkLaws.{follow-blocks, levels-follow}
use Rattle.ktx_file.specs.Framing.{level_size_of}
use Rattle.ktx_file.specs.Files.{written_levels}
use Rattle.packed_levels.specs.Rows.{level_front, row_bytes, rows_bytes}

-- the bytes of blocks, one after another
abbrev flat : List (List ℕ) → List ℕ
flat blocks = flat_map (λ block. block) blocks

-- one after the other

pub rows-both : (shape : Shape) (rows others : List BlockRow) (blocks : List (List ℕ))
    → rows_bytes shape (rows ++ others) blocks ≡ rows_bytes shape rows blocks
    ++ rows_bytes shape others (drop (blocks_in rows) blocks)
rows-both shape [] others blocks = refl
rows-both shape (row ∷ rows) others blocks =
    let front : List ℕ = row_bytes shape row (flat (take row.columns blocks)) in
    let count : row.columns + blocks_in rows ≡ blocks_in rows + row.columns = omega arith in
    let rest : drop (blocks_in rows) (drop row.columns blocks)
    ≡ drop (row.columns + blocks_in rows) blocks =
    drop-drop (blocks_in rows) row.columns blocks in
    ap (λ bytes. front ++ bytes) (rows-both shape rows others (drop row.columns blocks))
    ∙ sym (append_assoc front (rows_bytes shape rows (drop row.columns blocks))
    (rows_bytes shape others (drop (blocks_in rows) (drop row.columns blocks))))
    ∙ ap (λ xs. (front ++ rows_bytes shape rows (drop row.columns blocks))
    ++ rows_bytes shape others xs) rest

-- only as many blocks count as the rows have
pub rows-enough : (shape : Shape) (rows : List BlockRow) (blocks others : List (List ℕ))
    → blocks_in rows ≤ length blocks → rows_bytes shape rows (blocks ++ others)
    ≡ rows_bytes shape rows blocks
rows-enough shape [] blocks others enough = refl
rows-enough shape (row ∷ rows) blocks others enough =
    let some : row.columns ≤ length blocks = omega (arith, enough) in
    ap (λ xs. row_bytes shape row (flat xs) ++ rows_bytes shape rows
    (drop row.columns (blocks ++ others))) (take-append-le row.columns blocks others some)
    ∙ ap (λ xs. row_bytes shape row (flat (take row.columns blocks)) ++ rows_bytes shape rows xs)
    (drop-append-le row.columns blocks others some)
    ∙ ap (λ bytes. row_bytes shape row (flat (take row.columns blocks)) ++ bytes)
    (rows-enough shape rows (drop row.columns blocks) others
    (omega (arith, enough, length-drop row.columns blocks)))

-- one more row, whose blocks follow those of the other rows
pub rows-more : (shape : Shape) (rows : List BlockRow) (row : BlockRow) (blocks own : List (List ℕ))
    → length blocks ≡ blocks_in rows → length own ≡ row.columns
    → rows_bytes shape (rows ++ row ∷ []) (blocks ++ own) ≡ rows_bytes shape rows blocks
    ++ row_bytes shape row (flat own)
rows-more shape rows row blocks own long whole =
    let behind : drop (blocks_in rows) (blocks ++ own) ≡ own = ap (λ n. drop n (blocks ++ own))
    (sym long) ∙ drop-append_seam blocks own in
    let all : take row.columns own ≡ own = take_all row.columns own (omega (arith, whole)) in
    rows-both shape rows (row ∷ []) (blocks ++ own)
    ∙ ap (λ bytes. bytes ++ rows_bytes shape (row ∷ []) (drop (blocks_in rows) (blocks ++ own)))
    (rows-enough shape rows blocks own (omega (arith, long)))
    ∙ ap (λ xs. rows_bytes shape rows blocks ++ rows_bytes shape (row ∷ []) xs) behind
    ∙ ap (λ bytes. rows_bytes shape rows blocks ++ bytes)
    (append-nil (row_bytes shape row (flat (take row.columns own)))
    ∙ ap (λ xs. row_bytes shape row (flat xs)) all)

-- ---- how long

front-length : (shape : Shape) (row : BlockRow) → length (level_front shape row)
    ≡ 4 * level_begun row
front-length shape row = by-cases (row.image == 0 && row.row == 0)
  where
    by-cases : (b : Bool) → length (cond b (to_le_bytes w32 (level_size_of shape row.level)) [])
        ≡ 4 * cond b 1 0
    by-cases true = refl
    by-cases false = refl

pub rows-length : (shape : Shape) (rows : List BlockRow) (blocks : List (List ℕ))
    → blocks_in rows ≤ length blocks → AllByRecursion (λ block. length block ≡ 16) blocks
    → length (rows_bytes shape rows blocks) ≡ 4 * levels_in rows + 16 * blocks_in rows
rows-length shape [] blocks enough sizes = refl
rows-length shape (row ∷ rows) blocks enough sizes =
    let own : List (List ℕ) = take row.columns blocks in
    omega (
      arith,
      length-append (level_front shape row ++ flat own)
          (rows_bytes shape rows (drop row.columns blocks)),
      length-append (level_front shape row) (flat own),
      front-length shape row,
      length-flat 16 own (all-take _ row.columns blocks sizes),
      length-take-le row.columns blocks (omega (arith, enough)),
      rows-length shape rows (drop row.columns blocks)
          (omega (arith, enough, length-drop row.columns blocks))
          (all-drop _ row.columns blocks sizes),
    )

-- ---- all of them are the levels

follow-levels : (shape : Shape) (a c l n : ℕ) (rows : List BlockRow) → Follow shape a l rows c n
    → l + levels_in rows ≡ n
follow-levels shape a c l n [] follow = omega (arith, follow.1)
follow-levels shape a c l n (row ∷ rows) follow =
    omega (arith, follow-levels shape (a + row.columns) c (l + level_begun row) n rows follow.1)

-- in front of a row that is not the first of its level
pub front-empty : (shape : Shape) (row : BlockRow) → (row.image == 0 && row.row == 0) ≡ false
    → level_front shape row ≡ []
front-empty shape row not = rw not refl

abbrev one_if : Bool → ℕ
one_if b = cond b 1 0

front-none : (shape : Shape) (row : BlockRow) → level_begun row ≡ 0 → level_front shape row ≡ []
front-none shape row = by-cases (row.image == 0 && row.row == 0)
  where
    by-cases : (b : Bool) → one_if b ≡ 0
        → cond b (to_le_bytes w32 (level_size_of shape row.level)) [] ≡ []
    by-cases true begun = absurd (omega (arith, begun))
    by-cases false begun = refl

-- rows that begin no level are their blocks alone
rows-plain : (shape : Shape) (rows : List BlockRow) (blocks : List (List ℕ)) → levels_in rows ≡ 0
    → rows_bytes shape rows blocks ≡ flat (take (blocks_in rows) blocks)
rows-plain shape [] blocks none = refl
rows-plain shape (row ∷ rows) blocks none =
    let own : List (List ℕ) = take row.columns blocks in
    let rest : List (List ℕ) = drop row.columns blocks in
    ap (λ front. (front ++ flat own) ++ rows_bytes shape rows rest)
    (front-none shape row (omega (arith, none)))
    ∙ ap (λ bytes. flat own ++ bytes) (rows-plain shape rows rest (omega (arith, none)))
    ∙ sym (flat_map-append (λ block. block) own (take (blocks_in rows) rest))
    ∙ ap flat (sym (take-add row.columns (blocks_in rows) blocks))

-- the rows of a level are its size and its blocks
module _ (shape : Shape) (level : ℕ) (inside : level < shape.levels)
    (some : 1 ≤ image_count shape) where
  follow : Follow shape (row_start shape level 0 0) level (level_rows shape level)
      (row_start shape (level + 1) 0 0) (level + 1)
  follow = subst (λ rows. Follow shape (row_start shape level 0 0) level rows
      (row_start shape (level + 1) 0 0) (level + 1)) (append-nil (level_rows shape level))
      (levels-follow shape level 1 some (omega (arith, inside)))

  pub level-count : blocks_in (level_rows shape level) ≡ level_blocks shape level
  level-count = omega (
    arith,
    follow-blocks shape (row_start shape level 0 0)
        (row_start shape (level + 1) 0 0) level (level + 1)
        (level_rows shape level) follow,
    sum_to-more (level_blocks shape) level,
  )

  abbrev others : List BlockRow
  others = map (row_at shape level 0) (range_with_len 1 (rows_of shape level - 1)) ++ flat_map
      (image_rows shape level) (range_with_len 1 (image_count shape - 1))

  first-of : level_rows shape level ≡ row_at shape level 0 0 ∷ others
  first-of =
      let images : image_count shape ≡ suc (image_count shape - 1) = omega (arith, some) in
      let rows : rows_of shape level ≡ suc (rows_of shape level - 1) =
      omega (arith, rows-some shape level) in
      level_rows-is shape level ∙ ap (λ n. flat_map (image_rows shape level) (range_with_len 0 n))
      images
      ∙ ap (λ xs. xs ++ flat_map (image_rows shape level)
      (range_with_len 1 (image_count shape - 1))) (image_rows-is shape level 0
      ∙ ap (λ n. map (row_at shape level 0) (range_with_len 0 n)) rows)

  pub level-bytes : (blocks : List (List ℕ)) → rows_bytes shape (level_rows shape level) blocks
      ≡ to_le_bytes w32 (level_size_of shape level) ++ flat (take (level_blocks shape level) blocks)
  level-bytes blocks =
      let size : List ℕ = to_le_bytes w32 (level_size_of shape level) in
      let columns : ℕ = columns_of shape level in
      let own : List (List ℕ) = take columns blocks in
      let rest : List (List ℕ) = drop columns blocks in
      let one : 1 + levels_in others ≡ 1 =
      omega (
        arith,
        ap levels_in first-of,
        follow-levels shape (row_start shape level 0 0)
            (row_start shape (level + 1) 0 0) level (level + 1) (level_rows shape level) follow,
      )
      in
      let count : columns + blocks_in others ≡ level_blocks shape level =
      ap blocks_in (sym first-of) ∙ level-count in
      ap (λ rows. rows_bytes shape rows blocks) first-of
      ∙ ap (λ bytes. (size ++ flat own) ++ bytes)
      (rows-plain shape others rest (omega (arith, one)))
      ∙ append_assoc size (flat own) (flat (take (blocks_in others) rest))
      ∙ ap (λ bytes. size ++ bytes)
      (sym (flat_map-append (λ block. block) own (take (blocks_in others) rest))
      ∙ ap flat (sym (take-add columns (blocks_in others) blocks))
      ∙ ap (λ n. flat (take n blocks)) count)

levels-written : (shape : Shape) (level n : ℕ) (blocks : List (List ℕ)) → 1 ≤ image_count shape
    → level + n ≤ shape.levels
    → rows_bytes shape (flat_map (level_rows shape) (range_with_len level n)) blocks
    ≡ written_levels shape level n blocks
levels-written shape level zero blocks some few = refl
levels-written shape level (suc n) blocks some few =
    let inside : level < shape.levels = omega (arith, few) in
    let later : List BlockRow = flat_map (level_rows shape) (range_with_len (level + 1) n) in
    rows-both shape (level_rows shape level) later blocks
    ∙ ap (λ bytes. bytes ++ rows_bytes shape later
    (drop (blocks_in (level_rows shape level)) blocks))
    (level-bytes shape level inside some blocks)
    ∙ ap (λ k. (to_le_bytes w32 (level_size_of shape level) ++ flat
    (take (level_blocks shape level) blocks)) ++ rows_bytes shape later (drop k blocks))
    (level-count shape level inside some)
    ∙ ap (λ bytes. (to_le_bytes w32 (level_size_of shape level) ++ flat
    (take (level_blocks shape level) blocks)) ++ bytes)
    (levels-written shape (level + 1) n (drop (level_blocks shape level) blocks) some
    (omega (arith, few)))

pub rows-written : (shape : Shape) (blocks : List (List ℕ)) → 1 ≤ image_count shape
    → rows_bytes shape (block_rows shape) blocks ≡ written_levels shape 0 shape.levels blocks
unfolding block_rows
rows-written shape blocks some = levels-written shape 0 shape.levels blocks some (omega arith)
