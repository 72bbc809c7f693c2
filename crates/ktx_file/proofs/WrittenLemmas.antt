-- A file that is written is read.
use Rattle.std.proofs.Common.{◌≡◌, ℕ, zero, suc, ◌+◌, ◌*◌, ◌^◌, ◌<◌, ◌≤◌, max, Bool, true, false, cond, List, [], ◌∷◌, ◌++◌, length, take, drop, Ok, refl, sym, ◌∙◌, ap, arith, append_assoc, length-append, length-drop, lit<, inl, inr}
use Rattle.std.specs.Prelude.{◌==◌}
use Rattle.std.specs.List.{AllByRecursion, flat_map}
use Rattle.std.specs.Int.{w32, to_le_bytes}
use Rattle.std.proofs.lemmas.Bool.{le-leb, le-ltb, eq-eqb}
use Rattle.std.proofs.lemmas.List.{length-take-le, take-append-drop, append-nil}
use Rattle.std.proofs.lemmas.Nat.{mul-le}
use Rattle.std.proofs.Math.Seq.{take-append_seam, drop-append_seam}
use Rattle.byteorder.specs.Numbers.{little_number-reads_back}
use Rattle.astc_model.specs.Chains.{full_levels_of}
use Rattle.astc_model.specs.FootprintNames.{gl_of}
use Rattle.astc_model.specs.Limits.{most_texels}
use Rattle.astc_model.specs.Sums.{sum_to}
use Rattle.astc_model.specs.declared.flavour.Flavour.{Flavour}
use Rattle.astc_model.specs.declared.flavour.Flavour.TheVariants.{Linear, Srgb}
use Rattle.astc_model.specs.declared.footprint_name.FootprintName.{FootprintName}
use Rattle.astc_model.specs.declared.footprint_name.FootprintName.TheVariants.{F4x4, F5x4, F5x5, F6x5, F6x6, F8x5, F8x6, F8x8, F10x5, F10x6, F10x8, F10x10, F12x10, F12x12}
use Rattle.astc_model.proofs.SumLaws.{sum_to-more, sum_to-zero}
use Rattle.ktx_header.specs.declared.order.WordOrder.TheVariants.{Little}
use Rattle.ktx_header.specs.declared.words.HeaderWords.{HeaderWords}
use Rattle.ktx_header.specs.Orders.{number}
use Rattle.tex_shelf.specs.Pieces.{pieces_at}
use Rattle.tex_shelf.proofs.PieceLemmas.{cut_again, length-flat, all-take, all-drop}
use Rattle.ktx_header.specs.Words.{identifier, passed, words_in, words_of as told_words_of}
use Rattle.ktx_header.specs.Extents.{sides_fit, images_fit, faces_fit, sizes_fit, extent_of}
use Rattle.texture.specs.Extents.{images_of}
use Rattle.texture.specs.declared.shape.Shape.{Shape}
use Rattle.texture.specs.Shapes.{IsValid, extent, image_blocks, level_blocks}
use Rattle.ktx_file.specs.Framing.{level_size_of, words_of, keys}
use Rattle.ktx_file.specs.Headers.{header_in}
use Rattle.ktx_header.specs.Levels.{enough, right_size, level_of, levels_of}
use Rattle.ktx_file.specs.Files.{levels_in, ktx_of, written_levels, ktx, AreBlocks}
use Rattle.ktx_header.proofs.LevelLemmas.{sized_second, level_is, data_is}
use Rattle.ktx_file.proofs.FormatLemmas.{format_at-gl}
use Rattle.texture.proofs.ShapeLaws.{image-most, level-most}
use Rattle.ktx_file.proofs.LevelLemmas.{file_is}

-- a word that is written is read
word_again : (n : ℕ) (rest : List ℕ) → n < 2 ^ 32 → number Little (to_le_bytes w32 n ++ rest) ≡ n
unfolding number
word_again n rest fits = little_number-reads_back 4 n rest fits

-- the blocks of n levels from this one on
blocks_from : Shape → ℕ → ℕ → ℕ
blocks_from shape level zero = 0
blocks_from shape level (suc n) = level_blocks shape level + blocks_from shape (level + 1) n

enough_whole : (wanted count before : ℕ) → wanted ≤ count → enough wanted count before ≡ Ok tt
enough_whole wanted count before all = rw (le-ltb count wanted all) refl

front_is : (front rest : List ℕ) (n : ℕ) → length front ≡ n → take n (front ++ rest) ≡ front
front_is front rest n long = ap (λ k. take k (front ++ rest)) (sym long)
    ∙ take-append_seam front rest

rest_is : (front rest : List ℕ) (n : ℕ) → length front ≡ n → drop n (front ++ rest) ≡ rest
rest_is front rest n long = ap (λ k. drop k (front ++ rest)) (sym long)
    ∙ drop-append_seam front rest

-- a level that is written is read
level_again : (shape : Shape) (level before : ℕ) (flat rest : List ℕ)
    → level_size_of shape level < 2 ^ 32 → length flat ≡ 16 * level_blocks shape level
    → level_of Little (levels_in shape) level before
    (to_le_bytes w32 (level_size_of shape level) ++ (flat ++ rest))
    ≡ Ok (pieces_at 16 (level_blocks shape level) flat)
level_again shape level before flat rest fits full =
    let size : List ℕ = to_le_bytes w32 (level_size_of shape level) in
    let input : List ℕ = size ++ (flat ++ rest) in
    let first : enough 4 (length input) before ≡ Ok tt = enough_whole 4 (length input) before
    (omega (arith, length-append size (flat ++ rest))) in
    let word : number Little (take 4 input) ≡ level_size_of shape level =
    ap (number Little) (front_is size (flat ++ rest) 4 refl ∙ sym (append-nil size))
    ∙ word_again (level_size_of shape level) [] fits in
    let right : right_size level (number Little (take 4 input)) (level_size_of shape level)
    ≡ Ok tt =
    rw (word, eq-eqb (level_size_of shape level) (level_size_of shape level) refl) refl in
    let behind : drop 4 input ≡ flat ++ rest = rest_is size (flat ++ rest) 4 refl in
    let all : enough (16 * level_blocks shape level) (length (drop 4 input)) (before + 4) ≡ Ok tt =
    enough_whole (16 * level_blocks shape level) (length (drop 4 input)) (before + 4)
    (omega (arith, ap length behind, length-append flat rest)) in
    level_is Little (levels_in shape) level before input
    (sized_second Little level (level_size_of shape level) before input (Ok tt) first right) all
    ∙ ap (λ bs. Ok (pieces_at 16 (level_blocks shape level) bs))
    (ap (take (16 * level_blocks shape level)) behind
    ∙ front_is flat rest (16 * level_blocks shape level) full)

levels_again : (shape : Shape) (level n before : ℕ) (blocks : List (List ℕ))
    → ((k : ℕ) → k < level + n → level_size_of shape k < 2 ^ 32) → length blocks
    ≡ blocks_from shape level n
    → AllByRecursion (λ block. length block ≡ 16) blocks
    → levels_of Little (levels_in shape) level n before (written_levels shape level n blocks)
    ≡ Ok blocks
unfolding blocks_from
levels_again shape level zero before [] fits count sizes = refl
levels_again shape level zero before (block ∷ blocks) fits count sizes = absurd (omega arith)
levels_again shape level (suc n) before blocks fits count sizes =
    let k : ℕ = level_blocks shape level in
    let size : List ℕ = to_le_bytes w32 (level_size_of shape level) in
    let flat : List ℕ = flat_map (λ block. block) (take k blocks) in
    let rest : List ℕ = written_levels shape (level + 1) n (drop k blocks) in
    let some : k ≤ length blocks = omega (arith, count) in
    let full : length flat ≡ 16 * k =
    omega (
      arith,
      length-flat 16 (take k blocks) (all-take _ k blocks sizes),
      length-take-le k
          blocks some,
    ) in
    let whole : written_levels shape level (suc n) blocks ≡ size ++ (flat ++ rest) =
    append_assoc size flat rest in
    let cut : pieces_at 16 k flat ≡ take k blocks = cut_again 16 k (take k blocks)
    (record { count_is = length-take-le k blocks some; sizes = all-take _ k blocks sizes }) in
    let first : level_of Little (levels_in shape) level before (size ++ (flat ++ rest))
    ≡ Ok (take k blocks) = level_again shape level before flat rest
    (fits level (omega arith)) full ∙ ap Ok cut in
    let behind : drop (16 * k) (drop 4 (size ++ (flat ++ rest))) ≡ rest =
    ap (drop (16 * k)) (rest_is size (flat ++ rest) 4 refl) ∙ rest_is flat rest (16 * k) full in
    let second : levels_of Little (levels_in shape) (level + 1) n (before + 4 + 16 * k) rest
    ≡ Ok (drop k blocks) =
    levels_again shape (level + 1) n (before + 4 + 16 * k) (drop k blocks)
    (λ j below. fits j (omega arith)) (omega (arith, count, length-drop k blocks))
    (all-drop _ k blocks sizes)
    in
    rw (whole, first, behind, second) (ap Ok (take-append-drop k blocks))

zero_plus : (n : ℕ) → 0 + n ≡ n
zero_plus n = omega arith

format_fits : (name : FootprintName) (flavour : Flavour) → gl_of name flavour < 2 ^ 32
format_fits F4x4 Linear = lit< tt
format_fits F5x4 Linear = lit< tt
format_fits F5x5 Linear = lit< tt
format_fits F6x5 Linear = lit< tt
format_fits F6x6 Linear = lit< tt
format_fits F8x5 Linear = lit< tt
format_fits F8x6 Linear = lit< tt
format_fits F8x8 Linear = lit< tt
format_fits F10x5 Linear = lit< tt
format_fits F10x6 Linear = lit< tt
format_fits F10x8 Linear = lit< tt
format_fits F10x10 Linear = lit< tt
format_fits F12x10 Linear = lit< tt
format_fits F12x12 Linear = lit< tt
format_fits F4x4 Srgb = lit< tt
format_fits F5x4 Srgb = lit< tt
format_fits F5x5 Srgb = lit< tt
format_fits F6x5 Srgb = lit< tt
format_fits F6x6 Srgb = lit< tt
format_fits F8x5 Srgb = lit< tt
format_fits F8x6 Srgb = lit< tt
format_fits F8x8 Srgb = lit< tt
format_fits F10x5 Srgb = lit< tt
format_fits F10x6 Srgb = lit< tt
format_fits F10x8 Srgb = lit< tt
format_fits F10x10 Srgb = lit< tt
format_fits F12x10 Srgb = lit< tt
format_fits F12x12 Srgb = lit< tt

-- the first 64 bytes that are written
abbrev front_bytes : Shape → List ℕ
front_bytes shape = identifier ++ flat_map (to_le_bytes w32) (words_of shape)

abbrev told_words : Shape → HeaderWords
told_words shape = record {
  order = Little;
  kind = 0;
  format = 0;
  internal = gl_of shape.name shape.flavour;
  width = shape.width;
  height = shape.height;
  depth = 0;
  elements = shape.elements;
  faces = shape.faces;
  levels = shape.levels;
  key_bytes = 28;
}

-- each number fits a word
record HaveWords (shape : Shape) : Type 0 where
  width : shape.width < 2 ^ 32
  height : shape.height < 2 ^ 32
  elements : shape.elements < 2 ^ 32
  faces : shape.faces < 2 ^ 32
  levels : shape.levels < 2 ^ 32

words_again : (shape : Shape) → HaveWords shape → words_in Little (front_bytes shape)
    ≡ told_words shape
unfolding words_in
words_again shape fits =
    let behind : List ℕ → List ℕ = flat_map (to_le_bytes w32) in
    let levels : List ℕ = shape.levels ∷ 28 ∷ [] in
    let sides : List ℕ = shape.width ∷ shape.height ∷ 0 ∷ shape.elements ∷ shape.faces ∷ levels in
    rw (
      word_again 0 (behind (1 ∷ 0 ∷ gl_of shape.name shape.flavour ∷ 0x1908 ∷ sides)) (lit< tt),
      word_again 0 (behind (gl_of shape.name shape.flavour ∷ 0x1908 ∷ sides)) (lit< tt),
      word_again (gl_of shape.name shape.flavour) (behind (0x1908 ∷ sides))
          (format_fits shape.name shape.flavour),
      word_again shape.width (behind (shape.height ∷ 0 ∷ shape.elements ∷ shape.faces ∷ levels))
          fits.width,
      word_again shape.height (behind (0 ∷ shape.elements ∷ shape.faces ∷ levels)) fits.height,
      word_again 0 (behind (shape.elements ∷ shape.faces ∷ levels)) (lit< tt),
      word_again shape.elements (behind (shape.faces ∷ levels)) fits.elements,
      word_again shape.faces (behind levels) fits.faces,
      word_again shape.levels (behind (28 ∷ [])) fits.levels,
      word_again 28 [] (lit< tt),
    ) refl

all_words_again : (shape : Shape) → HaveWords shape → told_words_of (front_bytes shape)
    ≡ Ok (told_words shape)
unfolding told_words_of number
all_words_again shape fits = ap Ok (words_again shape fits)

faces_again : (shape : Shape) → IsValid shape → faces_fit (told_words shape) ≡ passed
faces_again shape valid =
    elim valid.faces_known [
      | inl one ↦ rw one refl
      | inr six ↦ rw (six, eq-eqb shape.width shape.height (valid.square six)) refl
    ]

extent_again : (shape : Shape) → IsValid shape → extent_of (told_words shape) ≡ Ok (extent shape)
unfolding extent_of
extent_again shape valid =
    let sides : sides_fit (told_words shape) ≡ passed =
    rw (
      le-leb 1 shape.width valid.width_some,
      le-leb shape.width 8192 valid.width_most,
      le-leb 1
          shape.height valid.height_some,
      le-leb shape.height 8192 valid.height_most,
    ) refl in
    let images : images_fit (told_words shape) ≡ passed =
    rw (le-ltb 2048 shape.elements valid.elements_most) (faces_again shape valid) in
    let sizes : sizes_fit (told_words shape) ≡ passed =
    rw (
      le-ltb (full_levels_of shape.width shape.height) shape.levels valid.levels_most,
      le-ltb
          most_texels (shape.width * shape.height * images_of (extent shape)) valid.not_too_large,
    )
    refl in
    let levels : max 1 shape.levels ≡ shape.levels = omega (arith, valid.levels_some) in
    rw (sides, images, sizes) (ap (λ l. Ok (record (extent shape) { levels = l })) levels)

header_again : (shape : Shape) → IsValid shape → header_in (front_bytes shape)
    ≡ Ok (record { order = Little; layout = shape; key_bytes = 28 })
unfolding header_in
header_again shape valid =
    let fits : HaveWords shape = record {
      width = omega (arith, valid.width_most);
      height = omega (arith, valid.height_most);
      elements = omega (arith, valid.elements_most);
      faces = elim valid.faces_known [ inl one ↦ omega arith | inr six ↦ omega arith ];
      levels = omega (arith, valid.levels_few);
    } in
    rw (all_words_again shape fits, format_at-gl shape.name shape.flavour, extent_again shape valid)
    refl

sum_from : (shape : Shape) (level n : ℕ)
    → sum_to (level_blocks shape) level + blocks_from shape level n
    ≡ sum_to (level_blocks shape) (level + n)
unfolding blocks_from
sum_from shape level zero = omega (arith, ap (sum_to (level_blocks shape)) (plus_zero level))
  where
    plus_zero : (n : ℕ) → n + 0 ≡ n
    plus_zero n = omega arith
sum_from shape level (suc n) =
    let place : level + 1 + n ≡ level + suc n = omega arith in
    omega (
      arith,
      sum_from shape (level + 1) n,
      sum_to-more (level_blocks shape) level,
      ap
          (sum_to (level_blocks shape)) place,
    )

-- what is written of a valid shape and its blocks is read
file_again : (shape : Shape) (blocks : List (List ℕ)) → IsValid shape → AreBlocks shape blocks
    → ((k : ℕ) → k < shape.levels → level_size_of shape k < 2 ^ 32)
    → ktx_of (ktx shape blocks) ≡ Ok (record { shape = shape; blocks = blocks })
unfolding ktx
file_again shape blocks valid all fits =
    let behind : List ℕ = written_levels shape 0 shape.levels blocks in
    let input : List ℕ = front_bytes shape ++ (keys ++ behind) in
    let whole : ktx shape blocks ≡ input = append_assoc (front_bytes shape) keys behind in
    let count : length blocks ≡ blocks_from shape 0 shape.levels =
    omega (
      arith,
      all.count,
      sum_from shape 0 shape.levels,
      sum_to-zero (level_blocks shape),
      ap
          (sum_to (level_blocks shape)) (zero_plus shape.levels),
    ) in
    let front : take 64 input ≡ front_bytes shape =
    front_is (front_bytes shape) (keys ++ behind) 64 refl in
    let rear : drop 64 input ≡ keys ++ behind =
    rest_is (front_bytes shape) (keys ++ behind) 64 refl in
    let long : enough 28 (length (drop 64 input)) 64 ≡ Ok tt =
    enough_whole 28 (length (drop 64 input)) 64
    (omega (arith, ap length rear, length-append keys behind)) in
    let levels : drop 28 (drop 64 input) ≡ behind = ap (drop 28) rear
    ∙ rest_is keys behind 28 refl in
    ap ktx_of whole
    ∙ file_is input (record { order = Little; layout = shape; key_bytes = 28 }) blocks
    (ap header_in front ∙ header_again shape valid)
    (data_is Little (levels_in shape) shape.levels 28 (drop 64 input) long
    ∙ ap (levels_of Little (levels_in shape) 0 shape.levels 92) levels
    ∙ levels_again shape 0 shape.levels 92 blocks (λ k below. fits k (omega arith)) count
    all.sizes)

either : (b : Bool) (x y limit : ℕ) → x < limit → y < limit → cond b x y < limit
either true x y limit low high = low
either false x y limit low high = high

size_fits : (shape : Shape) (level : ℕ) → IsValid shape → level_size_of shape level < 2 ^ 32
unfolding level_size_of
size_fits shape level valid =
    let whole : shape.width * shape.height ≤ 8192 * 8192 =
    mul-le shape.width shape.height 8192 8192 valid.width_most valid.height_most in
    either (shape.elements == 0) (16 * image_blocks shape level) (16 * level_blocks shape level)
    (2 ^ 32)
    (omega (arith, image-most shape level valid, whole))
    (omega (arith, level-most shape level valid))

-- the law: reading the bytes written for a valid shape and its blocks gives both
pub file_reads_back : (shape : Shape) (blocks : List (List ℕ)) → IsValid shape
    → AreBlocks shape blocks → ktx_of (ktx shape blocks)
    ≡ Ok (record { shape = shape; blocks = blocks })
file_reads_back shape blocks valid all = file_again shape blocks valid all
    (λ k below. size_fits shape k valid)
