-- The rows of blocks of a texture: their order, and the numbers of their blocks.
use Rattle.std.proofs.lemmas.Nat.{mul-le}
use Rattle.std.proofs.Common.{◌≡◌, ℕ, zero, suc, ◌+◌, ◌-◌, ◌*◌, ◌<◌, ◌≤◌, List, [], ◌∷◌, ◌++◌, map, le_refl, refl, sym, ◌∙◌, ap, arith, append_assoc}
use Rattle.std.specs.List.{flat_map, range_with_len}
use Rattle.astc_model.proofs.SumLaws.{sum_to-more}
use Rattle.texture.specs.Shapes.{Shape, rows_of, columns_of, image_count, image_blocks, level_blocks, all_blocks}
use Rattle.texture.specs.Rows.{BlockRow, row_at, row_start, image_rows, level_rows, block_rows}
use Rattle.texture.specs.Positions.{rows_from}
use Rattle.texture.proofs.ShapeLaws.{level_blocks-is, level-within, image-within}

pub image_rows-is : (shape : Shape) (level image : ℕ) → image_rows shape level image
    ≡ map (row_at shape level image) (range_with_len 0 (rows_of shape level))
unfolding image_rows
image_rows-is shape level image = refl

pub level_rows-is : (shape : Shape) (level : ℕ) → level_rows shape level
    ≡ flat_map (image_rows shape level) (range_with_len 0 (image_count shape))
unfolding level_rows
level_rows-is shape level = refl

-- the rows of an image, of the images after it, and of the levels after it
rows_from-is : (shape : Shape) (n level image row left others : ℕ) → rows_of shape level - row
    ≡ left → image_count shape - (image + 1) ≡ others
    → rows_from shape (suc n) level image row
    ≡ map (row_at shape level image) (range_with_len row left)
    ++ (flat_map (image_rows shape level) (range_with_len (image + 1) others) ++ flat_map
    (level_rows shape) (range_with_len (level + 1) n))
unfolding rows_from
rows_from-is shape n level image row left others left_is others_are = rw (left_is, others_are) refl

-- from the first row of an image on
rows_from-image : (shape : Shape) (n level image others : ℕ) → image_count shape - (image + 1)
    ≡ others
    → rows_from shape (suc n) level image 0 ≡ image_rows shape level image
    ++ (flat_map (image_rows shape level) (range_with_len (image + 1) others) ++ flat_map
    (level_rows shape) (range_with_len (level + 1) n))
rows_from-image shape n level image others others_are =
    let whole : rows_of shape level - 0 ≡ rows_of shape level = omega arith in
    rows_from-is shape n level image 0 (rows_of shape level) others whole others_are
    ∙ ap (λ xs. xs ++ (flat_map (image_rows shape level) (range_with_len (image + 1) others)
    ++ flat_map (level_rows shape) (range_with_len (level + 1) n)))
    (sym (image_rows-is shape level image))

-- from the first row of a level on
pub rows_from-level : (shape : Shape) (n level : ℕ) → 1 ≤ image_count shape
    → rows_from shape n level 0 0 ≡ flat_map (level_rows shape) (range_with_len level n)
unfolding rows_from
rows_from-level shape zero level some = refl
rows_from-level shape (suc n) level some =
    let others : ℕ = image_count shape - 1 in
    let count : image_count shape - (0 + 1) ≡ others = omega arith in
    let all : image_count shape ≡ suc others = omega (arith, some) in
    let rest : List BlockRow = flat_map (level_rows shape) (range_with_len (level + 1) n) in
    let images : List BlockRow = flat_map (image_rows shape level) (range_with_len 1 others) in
    let level_is : level_rows shape level ≡ image_rows shape level 0 ++ images =
    level_rows-is shape level ∙ ap (λ k. flat_map (image_rows shape level) (range_with_len 0 k))
    all in
    rows_from-image shape n level 0 others count
    ∙ sym (append_assoc (image_rows shape level 0) images rest)
    ∙ ap (λ xs. xs ++ rest) (sym level_is)

-- the row after a row

module _ (shape : Shape) (n level image row : ℕ) where
  row-next : row + 1 < rows_of shape level → rows_from shape (suc n) level image row
      ≡ row_at shape level image row ∷ rows_from shape (suc n) level image (row + 1)
  row-next inside =
      let left : ℕ = rows_of shape level - (row + 1) in
      let others : ℕ = image_count shape - (image + 1) in
      let more : rows_of shape level - row ≡ suc left = omega (arith, inside) in
      rows_from-is shape n level image row (suc left) others more refl
      ∙ ap (λ xs. row_at shape level image row ∷ xs)
      (sym (rows_from-is shape n level image (row + 1) left others refl refl))

  -- the last of an image
  row-last : row + 1 ≡ rows_of shape level → (others : ℕ) → image_count shape - (image + 1) ≡ others
      → rows_from shape (suc n) level image row
      ≡ row_at shape level image row
      ∷ (flat_map (image_rows shape level) (range_with_len (image + 1) others) ++ flat_map
      (level_rows shape) (range_with_len (level + 1) n))
  row-last last others others_are =
      let one : rows_of shape level - row ≡ 1 = omega (arith, last) in
      rows_from-is shape n level image row 1 others one others_are

  image-next : row + 1 ≡ rows_of shape level → image + 1 < image_count shape
      → rows_from shape (suc n) level image row ≡ row_at shape level image row ∷ rows_from shape
      (suc n) level (image + 1) 0
  image-next last inside =
      let others : ℕ = image_count shape - (image + 1 + 1) in
      let more : image_count shape - (image + 1) ≡ suc others = omega (arith, inside) in
      row-last last (suc others) more
      ∙ ap (λ xs. row_at shape level image row ∷ xs)
      (append_assoc (image_rows shape level (image + 1))
      (flat_map (image_rows shape level) (range_with_len (image + 1 + 1) others))
      (flat_map (level_rows shape) (range_with_len (level + 1) n))
      ∙ sym (rows_from-image shape n level (image + 1) others refl))

  level-next : row + 1 ≡ rows_of shape level → image + 1 ≡ image_count shape
      → rows_from shape (suc n) level image row ≡ row_at shape level image row ∷ rows_from shape n
      (level + 1) 0 0
  level-next last end =
      let none : image_count shape - (image + 1) ≡ 0 = omega (arith, end) in
      row-last last 0 none
      ∙ ap (λ xs. row_at shape level image row ∷ xs)
      (sym (rows_from-level shape n (level + 1) (omega (arith, end))))

-- ---- numbers of blocks

-- the next row of an image, and the first row of the next image, begin at the end of the row's
-- blocks
pub row_start-row : (shape : Shape) (level image row : ℕ)
    → row_start shape level image row + columns_of shape level
    ≡ row_start shape level image (row + 1)
row_start-row shape level image row = omega arith

pub row_start-image : (shape : Shape) (level image row : ℕ) → row + 1 ≡ rows_of shape level
    → row_start shape level image row + columns_of shape level ≡ row_start shape level (image + 1) 0
row_start-image shape level image row last =
    let all : image * rows_of shape level + row + 1 ≡ (image + 1) * rows_of shape level + 0 =
    omega (arith, last) in
    omega (arith, ap (λ k. k * columns_of shape level) all)

pub row_start-level : (shape : Shape) (level image row : ℕ) → row + 1 ≡ rows_of shape level
    → image + 1 ≡ image_count shape → row_start shape level image row + columns_of shape level
    ≡ row_start shape (level + 1) 0 0
row_start-level shape level image row last end =
    let rows : image * rows_of shape level + row + 1 ≡ image_count shape * rows_of shape level =
    omega (arith, last, ap (λ k. k * rows_of shape level) end) in
    let blocks : (image * rows_of shape level + row + 1) * columns_of shape level
    ≡ image_count shape * rows_of shape level * columns_of shape level =
    ap (λ k. k * columns_of shape level) rows in
    omega (arith, blocks, level_blocks-is shape level, sum_to-more (level_blocks shape) level)

-- a row's blocks are among all of them
pub row-within : (shape : Shape) (level image row : ℕ) → level < shape.levels
    → image < image_count shape → row < rows_of shape level
    → row_start shape level image row + columns_of shape level ≤ all_blocks shape
row-within shape level image row in_level in_image in_row =
    let rows : (row + 1) * columns_of shape level ≤ image_blocks shape level =
    mul-le (row + 1) (columns_of shape level) (rows_of shape level) (columns_of shape level)
    (omega (arith, in_row)) (le_refl (columns_of shape level)) in
    omega (arith, rows, image-within shape level image in_image, level-within shape level in_level)

-- ---- from a position on

-- all rows
pub all-left : (shape : Shape) → 1 ≤ image_count shape → rows_from shape (shape.levels - 0) 0 0 0
    ≡ block_rows shape
unfolding block_rows
all-left shape some =
    let whole : shape.levels - 0 ≡ shape.levels = omega arith in
    ap (λ n. rows_from shape n 0 0 0) whole ∙ rows_from-level shape shape.levels 0 some

-- no row follows the last level
pub none-left : (shape : Shape) (level image row : ℕ) → level ≡ shape.levels
    → rows_from shape (shape.levels - level) level image row ≡ []
unfolding rows_from
none-left shape level image row end = let none : shape.levels - level ≡ 0 = omega (arith, end) in
    rw none refl

module _ (shape : Shape) (level image row : ℕ) (inside : level < shape.levels) where
  more : shape.levels - level ≡ suc (shape.levels - (level + 1))
  more = omega (arith, inside)

  pub left-row : row + 1 < rows_of shape level
      → rows_from shape (shape.levels - level) level image row ≡ row_at shape level image row
      ∷ rows_from shape (shape.levels - level) level image (row + 1)
  left-row below = rw more (row-next shape (shape.levels - (level + 1)) level image row below)

  pub left-image : row + 1 ≡ rows_of shape level → image + 1 < image_count shape
      → rows_from shape (shape.levels - level) level image row ≡ row_at shape level image row
      ∷ rows_from shape (shape.levels - level) level (image + 1) 0
  left-image last below =
      rw more (image-next shape (shape.levels - (level + 1)) level image row last below)

  pub left-level : row + 1 ≡ rows_of shape level → image + 1 ≡ image_count shape
      → rows_from shape (shape.levels - level) level image row ≡ row_at shape level image row
      ∷ rows_from shape (shape.levels - (level + 1)) (level + 1) 0 0
  left-level last end = ap (λ n. rows_from shape n level image row) more
      ∙ level-next shape (shape.levels - (level + 1)) level image row last end
