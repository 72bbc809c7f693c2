-- Levels of mip chains.
use Rattle.std.proofs.Common.{◌≡◌, ℕ, suc, ◌+◌, ◌-◌, ◌*◌, ◌/◌, ◌%◌, ◌<◌, ◌≤◌, List, [], ◌∷◌, ◌++◌, length, map, refl, sym, ◌∙◌, ap, arith, append_assoc, append-nil}
use Rattle.std.specs.Prelude.{get_or}
use Rattle.std.specs.List.{AllByRecursion, flat_map, range_with_len}
use Rattle.std.proofs.lemmas.List.FromFn.{map-range_with_len_more, get_or-map-range_with_len}
use Rattle.std.proofs.lemmas.Grind.{flat_map-append}
use Rattle.std.proofs.lemmas.List.Folds.{flat_map-map}
use Rattle.astc_model.specs.Chains.{side_at_level}
use Rattle.images.specs.Pictures.{Pictures, texels_of, bytes_of}
use Rattle.images.specs.Chains.{halved_texel, halved_row, halved_rows, halved, images_at_level, chain_of}
use Rattle.images.proofs.TexelLaws.{texels_of-bytes_of}

-- one texel more
pub row_more : (images : Pictures) (image y x : ℕ) (before now after texel : List ℕ) → now
    ≡ before ++ bytes_of (map (λ p. halved_texel images image p y) (range_with_len 0 x))
    → texel ≡ halved_texel images image x y → after ≡ now ++ texel → after
    ≡ before ++ bytes_of (map (λ p. halved_texel images image p y) (range_with_len 0 (x + 1)))
row_more images image y x before now after texel so_far is grown =
    let row : List (List ℕ) = map (λ p. halved_texel images image p y) (range_with_len 0 x) in
    let next : List ℕ = halved_texel images image x y in
    grown
    ∙ ap (λ xs. xs ++ texel) so_far
    ∙ append_assoc before (bytes_of row) texel
    ∙ ap (λ xs. before ++ xs)
    (ap (λ t. bytes_of row ++ t) (is ∙ sym (append-nil next))
    ∙ sym (flat_map-append (λ t. t) row (next ∷ []))
    ∙ ap bytes_of (sym (map-range_with_len_more (λ p. halved_texel images image p y) 0 x x
    (omega arith))))

-- the whole row
pub row_whole : (images : Pictures) (image y x : ℕ) (before now : List ℕ) → x
    ≡ side_at_level images.width 1
    → now ≡ before ++ bytes_of (map (λ p. halved_texel images image p y) (range_with_len 0 x)) → now
    ≡ before ++ bytes_of (halved_row images image y)
unfolding halved_row
row_whole images image y x before now end so_far = so_far
    ∙ ap (λ n. before ++ bytes_of (map (λ p. halved_texel images image p y) (range_with_len 0 n)))
    end

-- one row more
rows_on : (images : Pictures) (n : ℕ) → halved_rows images (n + 1)
    ≡ halved_rows images n ++ halved_row images (n / side_at_level images.height 1)
    (n % side_at_level images.height 1)
unfolding halved_rows
rows_on images n =
    let row : ℕ → List (List ℕ) = λ r. halved_row images (r / side_at_level images.height 1)
    (r % side_at_level images.height 1) in
    sym (flat_map-map (λ r. r) row (range_with_len 0 (n + 1)))
    ∙ ap (flat_map (λ r. r)) (map-range_with_len_more row 0 n n (omega arith))
    ∙ flat_map-append (λ r. r) (map row (range_with_len 0 n)) (row n ∷ [])
    ∙ ap (λ xs. flat_map (λ r. r) (map row (range_with_len 0 n)) ++ xs) (append-nil (row n))
    ∙ ap (λ xs. xs ++ row n) (flat_map-map (λ r. r) row (range_with_len 0 n))

pub rows_none : (images : Pictures) → bytes_of (halved_rows images 0) ≡ []
unfolding halved_rows
rows_none images = refl

pub rows_more : (images : Pictures) (n image y : ℕ) (now after : List ℕ) → now
    ≡ bytes_of (halved_rows images n) → image ≡ n / side_at_level images.height 1 → y
    ≡ n % side_at_level images.height 1
    → after ≡ now ++ bytes_of (halved_row images image y) → after
    ≡ bytes_of (halved_rows images (n + 1))
rows_more images n image y now after so_far in_image in_row grown =
    grown
    ∙ ap (λ xs. xs ++ bytes_of (halved_row images image y)) so_far
    ∙ rw (in_image, in_row)
    (sym (flat_map-append (λ t. t) (halved_rows images n)
    (halved_row images (n / side_at_level images.height 1)
    (n % side_at_level images.height 1))))
    ∙ ap bytes_of (sym (rows_on images n))

-- each texel has four bytes
abbrev Four : List ℕ → Type 0
Four texel = length texel ≡ 4

both : (xs ys : List (List ℕ)) → AllByRecursion Four xs → AllByRecursion Four ys
    → AllByRecursion Four (xs ++ ys)
both [] ys all more = more
both (x ∷ xs) ys all more = (all.0, both xs ys all.1 more)

row_four : (images : Pictures) (image y : ℕ) (places : List ℕ)
    → AllByRecursion Four (map (λ x. halved_texel images image x y) places)
unfolding halved_texel
row_four images image y [] = tt
row_four images image y (x ∷ places) = (refl, row_four images image y places)

rows_four : (images : Pictures) (h : ℕ) (rows : List ℕ)
    → AllByRecursion Four (flat_map (λ row. halved_row images (row / h) (row % h)) rows)
unfolding halved_row
rows_four images h [] = tt
rows_four images h (row ∷ rows) =
    both (halved_row images (row / h) (row % h))
    (flat_map (λ r. halved_row images (r / h) (r % h)) rows)
    (row_four images (row / h) (row % h) (range_with_len 0 (side_at_level images.width 1)))
    (rows_four images h rows)

-- the next level from its whole raster
pub halved_is : (images : Pictures) (width height count : ℕ) (raster : List ℕ) (next : Pictures)
    → width ≡ side_at_level images.width 1 → height ≡ side_at_level images.height 1 → count
    ≡ images.count
    → raster ≡ bytes_of (halved_rows images (height * count)) → next
    ≡ record { width = width; height = height; count = count; texels = texels_of raster } → next
    ≡ halved images
unfolding halved halved_rows
halved_is images width height count raster next wide high all whole is =
    is
    ∙ ap (λ xs. record { width = width; height = height; count = count; texels = texels_of xs })
    whole
    ∙ ap (λ ts. record { width = width; height = height; count = count; texels = ts })
    (texels_of-bytes_of (halved_rows images (height * count))
    (rows_four images (side_at_level images.height 1) (range_with_len 0 (height * count))))
    ∙ rw (wide, high, all) refl

-- the first levels, and one more
pub levels_more : (images : Pictures) (level : ℕ) (now after : List Pictures) (next : Pictures)
    → now ≡ chain_of images level → next ≡ halved (images_at_level images (level - 1)) → 1 ≤ level
    → after ≡ now ++ next ∷ [] → after ≡ chain_of images (level + 1)
unfolding chain_of
levels_more images level now after next so_far is some grown =
    let place : level ≡ suc (level - 1) = omega arith in
    grown
    ∙ ap (λ xs. xs ++ next ∷ []) so_far
    ∙ ap (λ p. map (images_at_level images) (range_with_len 0 level) ++ p ∷ [])
    (is ∙ ap (images_at_level images) (sym place))
    ∙ sym (map-range_with_len_more (images_at_level images) 0 level level (omega arith))

pub level_is : (images : Pictures) (level i : ℕ) (now : List Pictures) (d : Pictures) → now
    ≡ chain_of images level → i < level → get_or now i d ≡ images_at_level images i
unfolding chain_of
level_is images level i now d so_far within = ap (λ xs. get_or xs i d) so_far
    ∙ get_or-map-range_with_len (images_at_level images) 0 level i i d within (omega arith)

pub first_level : (images : Pictures) (now : List Pictures) → now ≡ images ∷ [] → now
    ≡ chain_of images 1
unfolding chain_of
first_level images now is = is

-- a loop over all rows has ended
pub area_of_rows : (row a b h n : ℕ) → row ≡ a * b → a ≡ h → b ≡ n → row ≡ h * n
area_of_rows row a b h n is same same' = is ∙ rw (same, same') refl
