-- A walk over the rows of blocks of a texture: each is a row of the texture, begins after the
-- blocks of the rows before it, and begins a level if it is the level's first row.
use Rattle.std.proofs.Common.{◌≡◌, ℕ, zero, suc, ◌+◌, ◌-◌, ◌*◌, ◌<◌, ◌≤◌, Bool, true, false, ◌&&◌, List, [], ◌∷◌, ◌++◌, map, ne_eqb, refl, sym, ◌∙◌, ap, subst, arith, le_refl, append_assoc}
use Rattle.std.specs.Prelude.{◌==◌}
use Rattle.std.specs.List.{flat_map, range_with_len}
use Rattle.astc_model.specs.Sums.{sum_to}
use Rattle.astc_model.proofs.SumLaws.{sum_to-zero}
use Rattle.texture.specs.Shapes.{Shape, rows_of, columns_of, image_count, level_blocks, all_blocks}
use Rattle.texture.specs.Rows.{BlockRow, IsRowOf, row_at, row_start, image_rows, level_rows, block_rows}
use Rattle.texture.specs.Walks.{level_begun, blocks_in, levels_in, IsBehind, Follow}
use Rattle.texture.proofs.ShapeLaws.{rows-some}
use Rattle.texture.proofs.RowLaws.{image_rows-is, level_rows-is, row_start-row, row_start-image, row_start-level}

-- rows that follow each other

pub follow-append : (shape : Shape) (a b c : ℕ) (l m n : ℕ) (xs ys : List BlockRow)
    → Follow shape a l xs b m → Follow shape b m ys c n → Follow shape a l (xs ++ ys) c n
follow-append shape a b c l m n [] ys first second = rw (first.0, first.1) second
follow-append shape a b c l m n (x ∷ xs) ys first second =
    (first.0, follow-append shape (a + x.columns) b c (l + level_begun x) m n xs ys first.1 second)

-- the row after some rows
pub follow-at : (shape : Shape) (a c l n : ℕ) (xs : List BlockRow) (row : BlockRow)
    (ys : List BlockRow) → Follow shape a l (xs ++ (row ∷ ys)) c n
    → IsBehind shape (a + blocks_in xs) (l + levels_in xs) row
follow-at shape a c l n [] row ys follow =
    let blocks : a + 0 ≡ a = omega arith in
    let levels : l + 0 ≡ l = omega arith in
    rw (blocks, levels) follow.0
follow-at shape a c l n (x ∷ xs) row ys follow =
    let blocks : a + x.columns + blocks_in xs ≡ a + (x.columns + blocks_in xs) = omega arith in
    let levels : l + level_begun x + levels_in xs ≡ l + (level_begun x + levels_in xs) =
    omega arith in
    rw (blocks, levels) at (follow-at shape (a + x.columns) c
    (l + level_begun x) n xs row ys follow.1)

pub follow-blocks : (shape : Shape) (a c l n : ℕ) (xs : List BlockRow) → Follow shape a l xs c n
    → a + blocks_in xs ≡ c
follow-blocks shape a c l n [] follow = omega (arith, follow.0)
follow-blocks shape a c l n (x ∷ xs) follow =
    omega (arith, follow-blocks shape (a + x.columns) c (l + level_begun x) n xs follow.1)

-- ---- which rows begin a level

and-false : (b : Bool) → (b && false) ≡ false
and-false true = refl
and-false false = refl

pub none-begun-row : (shape : Shape) (level image row : ℕ) → 1 ≤ row
    → level_begun (row_at shape level image row) ≡ 0
none-begun-row shape level image row later =
    rw (ne_eqb row 0 (λ none. absurd (omega (arith, none, later))), and-false (image == 0)) refl

pub none-begun-image : (shape : Shape) (level image row : ℕ) → 1 ≤ image
    → level_begun (row_at shape level image row) ≡ 0
none-begun-image shape level image row later =
    rw (ne_eqb image 0 (λ none. absurd (omega (arith, none, later)))) refl

-- ---- the rows of a texture

module _ (shape : Shape) (level : ℕ) (in_level : level < shape.levels) where
  there : (image row : ℕ) → image < image_count shape → row < rows_of shape level
      → IsRowOf shape (row_at shape level image row)
  there image row in_image in_row = record {
    level_in = in_level;
    image_in = in_image;
    row_in = in_row;
    is = refl;
  }

  -- rows that begin no level
  later-rows : (image row n : ℕ) → image < image_count shape → row + n ≤ rows_of shape level
      → ((r : ℕ) → row ≤ r → level_begun (row_at shape level image r) ≡ 0)
      → Follow shape (row_start shape level image row) (level + 1)
      (map (row_at shape level image) (range_with_len row n))
      (row_start shape level image (row + n)) (level + 1)
  later-rows image row zero in_image few none =
      let same : row + 0 ≡ row = omega arith in
      (ap (row_start shape level image) (sym same), refl)
  later-rows image row (suc n) in_image few none =
      let begun : level_begun (row_at shape level image row) ≡ 0 = none row (le_refl row) in
      let levels : level + 1 + level_begun (row_at shape level image row) ≡ level + 1 =
      omega (arith, begun) in
      let end : row + 1 + n ≡ row + suc n = omega arith in
      let rest = later-rows image (row + 1) n in_image (omega (arith, few))
      (λ r behind. none r (omega (arith, behind))) in (
        record {
          there = there image row in_image (omega (arith, few));
          first_is = refl;
          level_is = levels;
        },
        subst (λ l. Follow shape (row_start shape level image row + columns_of shape level) l
            (map (row_at shape level image) (range_with_len (row + 1) n))
            (row_start shape level image (row + suc n)) (level + 1)) (sym levels)
            (subst (λ a. Follow shape a (level + 1)
            (map (row_at shape level image) (range_with_len (row + 1) n))
            (row_start shape level image (row + suc n)) (level + 1))
            (sym (row_start-row shape level image row))
            (subst (λ k. Follow shape (row_start shape level image (row + 1)) (level + 1)
            (map (row_at shape level image) (range_with_len (row + 1) n))
            (row_start shape level image k) (level + 1)) end rest)),
      )

  image-end : (image : ℕ) → row_start shape level image (rows_of shape level)
      ≡ row_start shape level (image + 1) 0
  image-end image =
      let all : image * rows_of shape level + rows_of shape level
      ≡ (image + 1) * rows_of shape level + 0 = omega arith in
      ap (λ k. sum_to (level_blocks shape) level + k * columns_of shape level) all

  later-image : (image : ℕ) → 1 ≤ image → image < image_count shape
      → Follow shape (row_start shape level image 0) (level + 1) (image_rows shape level image)
      (row_start shape level (image + 1) 0) (level + 1)
  later-image image later in_image =
      rw (image_rows-is shape level image)
      (subst (λ b. Follow shape (row_start shape level image 0) (level + 1)
      (map (row_at shape level image) (range_with_len 0 (rows_of shape level))) b
      (level + 1)) (image-end image)
      (subst (λ k. Follow shape (row_start shape level image 0) (level + 1)
      (map (row_at shape level image) (range_with_len 0 (rows_of shape level)))
      (row_start shape level image k) (level + 1)) (omega arith)
      (later-rows image 0 (rows_of shape level) in_image (omega arith)
      (λ r behind. none-begun-image shape level image r later))))

  first-image : 0 < image_count shape → Follow shape (row_start shape level 0 0) level
      (image_rows shape level 0) (row_start shape level 1 0) (level + 1)
  first-image in_image =
      let others : ℕ = rows_of shape level - 1 in
      let all : rows_of shape level ≡ suc others = omega (arith, rows-some shape level) in
      let end : 1 + others ≡ rows_of shape level = omega (arith, rows-some shape level) in
      let rest = later-rows 0 1 others in_image (omega (arith, end))
      (λ r behind. none-begun-row shape level 0 r behind) in
      let rows : row_at shape level 0 0 ∷ map (row_at shape level 0) (range_with_len 1 others)
      ≡ image_rows shape level 0 =
      ap (λ n. map (row_at shape level 0) (range_with_len 0 n)) (sym all)
      ∙ sym (image_rows-is shape level 0) in
      let start : row_start shape level 0 1 ≡ row_start shape level 0 0 + columns_of shape level =
      sym (row_start-row shape level 0 0) in
      let last : row_start shape level 0 (1 + others) ≡ row_start shape level 1 0 =
      ap (row_start shape level 0) end ∙ image-end 0 in
      subst (λ xs. Follow shape (row_start shape level 0 0) level xs (row_start shape level 1 0)
      (level + 1)) rows (
        record {
          there = there 0 0 in_image (omega (arith, rows-some shape level));
          first_is = refl;
          level_is = refl;
        },
        subst (λ a. Follow shape a (level + 1)
            (map (row_at shape level 0) (range_with_len 1 others)) (row_start shape level 1 0)
            (level + 1)) start
            (subst (λ b. Follow shape (row_start shape level 0 1) (level + 1)
            (map (row_at shape level 0) (range_with_len 1 others)) b (level + 1)) last
            rest),
      )

  later-images : (image n : ℕ) → 1 ≤ image → image + n ≤ image_count shape
      → Follow shape (row_start shape level image 0) (level + 1)
      (flat_map (image_rows shape level) (range_with_len image n))
      (row_start shape level (image + n) 0) (level + 1)
  later-images image zero later few =
      let same : image + 0 ≡ image = omega arith in
      (ap (λ k. row_start shape level k 0) (sym same), refl)
  later-images image (suc n) later few =
      let end : image + 1 + n ≡ image + suc n = omega arith in
      follow-append shape (row_start shape level image 0) (row_start shape level (image + 1) 0)
      (row_start shape level (image + suc n) 0) (level + 1) (level + 1) (level + 1)
      (image_rows shape level image)
      (flat_map (image_rows shape level) (range_with_len (image + 1) n))
      (later-image image later (omega (arith, few)))
      (subst (λ k. Follow shape (row_start shape level (image + 1) 0) (level + 1)
      (flat_map (image_rows shape level) (range_with_len (image + 1) n))
      (row_start shape level k 0) (level + 1)) end
      (later-images (image + 1) n (omega arith) (omega (arith, few))))

  one-level : 1 ≤ image_count shape → Follow shape (row_start shape level 0 0) level
      (level_rows shape level) (row_start shape (level + 1) 0 0) (level + 1)
  one-level some =
      let others : ℕ = image_count shape - 1 in
      let all : image_count shape ≡ suc others = omega (arith, some) in
      let end : 1 + others ≡ image_count shape = omega (arith, some) in
      let row_end : rows_of shape level - 1 + 1 ≡ rows_of shape level =
      omega (arith, rows-some shape level) in
      let level_end : row_start shape level (1 + others) 0 ≡ row_start shape (level + 1) 0 0 =
      ap (λ k. row_start shape level k 0) (omega arith)
      ∙ sym (row_start-image shape level others (rows_of shape level - 1) row_end)
      ∙ row_start-level shape level others (rows_of shape level - 1) row_end
      (omega (arith, end)) in
      let images : image_rows shape level 0 ++ flat_map (image_rows shape level)
      (range_with_len 1 others) ≡ level_rows shape level =
      ap (λ n. flat_map (image_rows shape level) (range_with_len 0 n)) (sym all)
      ∙ sym (level_rows-is shape level) in
      subst (λ xs. Follow shape (row_start shape level 0 0) level xs
      (row_start shape (level + 1) 0 0) (level + 1)) images
      (follow-append shape (row_start shape level 0 0) (row_start shape level 1 0)
      (row_start shape (level + 1) 0 0) level (level + 1) (level + 1)
      (image_rows shape level 0) (flat_map (image_rows shape level) (range_with_len 1 others))
      (first-image (omega (arith, some)))
      (subst (λ b. Follow shape (row_start shape level 1 0) (level + 1)
      (flat_map (image_rows shape level) (range_with_len 1 others)) b (level + 1))
      level_end
      (later-images 1 others (omega arith) (omega (arith, end)))))

pub levels-follow : (shape : Shape) (level n : ℕ) → 1 ≤ image_count shape → level + n ≤ shape.levels
    → Follow shape (row_start shape level 0 0) level
    (flat_map (level_rows shape) (range_with_len level n)) (row_start shape (level + n) 0 0)
    (level + n)
levels-follow shape level zero some few =
    let same : level + 0 ≡ level = omega arith in
    (ap (λ k. row_start shape k 0 0) (sym same), sym same)
levels-follow shape level (suc n) some few =
    let end : level + 1 + n ≡ level + suc n = omega arith in
    follow-append shape (row_start shape level 0 0) (row_start shape (level + 1) 0 0)
    (row_start shape (level + suc n) 0 0) level (level + 1) (level + suc n)
    (level_rows shape level) (flat_map (level_rows shape) (range_with_len (level + 1) n))
    (one-level shape level (omega (arith, few)) some)
    (subst (λ k. Follow shape (row_start shape (level + 1) 0 0) (level + 1)
    (flat_map (level_rows shape) (range_with_len (level + 1) n))
    (row_start shape k 0 0) k) end
    (levels-follow shape (level + 1) n some (omega (arith, few))))

-- all of them
pub rows-follow : (shape : Shape) → 1 ≤ image_count shape → Follow shape 0 0 (block_rows shape)
    (all_blocks shape) shape.levels
unfolding block_rows
rows-follow shape some =
    let start : row_start shape 0 0 0 ≡ 0 = omega (arith, sum_to-zero (level_blocks shape)) in
    let last : 0 + shape.levels ≡ shape.levels = omega arith in
    let whole : row_start shape shape.levels 0 0 ≡ all_blocks shape = omega arith in
    let end : row_start shape (0 + shape.levels) 0 0 ≡ all_blocks shape =
    ap (λ k. row_start shape k 0 0) last ∙ whole in
    subst (λ l. Follow shape 0 0 (flat_map (level_rows shape) (range_with_len 0 shape.levels))
    (all_blocks shape) l) last
    (subst (λ b. Follow shape 0 0 (flat_map (level_rows shape) (range_with_len 0 shape.levels)) b
    (0 + shape.levels)) end
    (subst (λ a. Follow shape a 0 (flat_map (level_rows shape) (range_with_len 0 shape.levels))
    (row_start shape (0 + shape.levels) 0 0) (0 + shape.levels)) start
    (levels-follow shape 0 shape.levels some (omega arith))))

-- a row of a texture, after the rows of the walk before it
pub row-behind : (shape : Shape) (xs : List BlockRow) (row : BlockRow) (ys : List BlockRow)
    → 1 ≤ image_count shape → xs ++ (row ∷ ys) ≡ block_rows shape → IsBehind shape (blocks_in xs)
    (levels_in xs) row
row-behind shape xs row ys some split =
    let blocks : 0 + blocks_in xs ≡ blocks_in xs = omega arith in
    let levels : 0 + levels_in xs ≡ levels_in xs = omega arith in
    rw (blocks, levels) at (follow-at shape 0 (all_blocks shape) 0 shape.levels xs row ys
    (subst (λ rows. Follow shape 0 0 rows (all_blocks shape) shape.levels) (sym split)
    (rows-follow shape some)))

pub blocks-all : (shape : Shape) → 1 ≤ image_count shape → blocks_in (block_rows shape)
    ≡ all_blocks shape
blocks-all shape some =
    omega (
      arith,
      follow-blocks shape 0 (all_blocks shape) 0 shape.levels (block_rows shape)
          (rows-follow shape some),
    )

-- ---- what is made of each row, one after another

pub flat_map-map : {A : Type 0} (f : BlockRow → List A) (g : ℕ → BlockRow) (numbers : List ℕ)
    → flat_map f (map g numbers) ≡ flat_map (λ n. f (g n)) numbers
flat_map-map f g [] = refl
flat_map-map f g (n ∷ numbers) = ap (λ xs. f (g n) ++ xs) (flat_map-map f g numbers)

pub flat_map-both : {A : Type 0} (f : BlockRow → List A) (xs ys : List BlockRow)
    → flat_map f (xs ++ ys) ≡ flat_map f xs ++ flat_map f ys
flat_map-both f [] ys = refl
flat_map-both f (x ∷ xs) ys = ap (λ zs. f x ++ zs) (flat_map-both f xs ys)
    ∙ sym (append_assoc (f x) (flat_map f xs) (flat_map f ys))

pub flat_map-flat_map : {A : Type 0} (f : BlockRow → List A) (g : ℕ → List BlockRow)
    (numbers : List ℕ) → flat_map f (flat_map g numbers) ≡ flat_map (λ n. flat_map f (g n)) numbers
flat_map-flat_map f g [] = refl
flat_map-flat_map f g (n ∷ numbers) = flat_map-both f (g n) (flat_map g numbers)
    ∙ ap (λ xs. flat_map f (g n) ++ xs) (flat_map-flat_map f g numbers)

pub flat_map-same : {A : Type 0} (f g : ℕ → List A) (numbers : List ℕ) → ((n : ℕ) → f n ≡ g n)
    → flat_map f numbers ≡ flat_map g numbers
flat_map-same f g [] same = refl
flat_map-same f g (n ∷ numbers) same = ap (λ xs. xs ++ flat_map f numbers) (same n)
    ∙ ap (λ xs. g n ++ xs) (flat_map-same f g numbers same)

-- what is made of the rows of an image, of a level, of all levels
pub image-made : {A : Type 0} (f : BlockRow → List A) (shape : Shape) (level image : ℕ)
    → flat_map f (image_rows shape level image) ≡ flat_map (λ row. f (row_at shape level image row))
    (range_with_len 0 (rows_of shape level))
image-made f shape level image = ap (flat_map f) (image_rows-is shape level image)
    ∙ flat_map-map f (row_at shape level image) (range_with_len 0 (rows_of shape level))

pub level-made : {A : Type 0} (f : BlockRow → List A) (shape : Shape) (level : ℕ)
    → flat_map f (level_rows shape level)
    ≡ flat_map (λ image. flat_map f (image_rows shape level image))
    (range_with_len 0 (image_count shape))
level-made f shape level = ap (flat_map f) (level_rows-is shape level)
    ∙ flat_map-flat_map f (image_rows shape level) (range_with_len 0 (image_count shape))

pub all-made : {A : Type 0} (f : BlockRow → List A) (shape : Shape) → flat_map f (block_rows shape)
    ≡ flat_map (λ level. flat_map f (level_rows shape level)) (range_with_len 0 shape.levels)
unfolding block_rows
all-made f shape = flat_map-flat_map f (level_rows shape) (range_with_len 0 shape.levels)
