-- Texels of rows.
use Rattle.std.proofs.Common.{◌≡◌, ℕ, zero, suc, ◌+◌, ◌-◌, ◌*◌, ◌<◌, ◌≤◌, List, [], ◌∷◌, ◌++◌, length, take, drop, refl, sym, ◌∙◌, ap, arith, append_assoc, append-nil, length-append, length-drop, length-take-le}
use Rattle.std.specs.List.{AllByRecursion}
use Rattle.std.proofs.lemmas.Grind.{flat_map-append}
use Rattle.std.proofs.lemmas.List.{take-append-drop}
use Rattle.images.specs.Pictures.{texels_of, bytes_of}
use Rattle.images.proofs.TexelLaws.{texels_of-bytes_of, length-bytes_of}
use Rattle.ktx_source.specs.declared.format.Format.TheVariants.{Rgb8, Rgba8}
use Rattle.ktx_source.specs.Rasters.{from_rgb, row_size, rows_in}

-- whole texels and more
texels_of-append : (n : ℕ) (xs ys : List ℕ) → length xs ≡ 4 * n → texels_of xs ++ texels_of ys
    ≡ texels_of (xs ++ ys)
texels_of-append zero [] ys full = refl
texels_of-append (suc n) (r ∷ g ∷ b ∷ a ∷ xs) ys full = ap (λ rest. (r ∷ g ∷ b ∷ a ∷ []) ∷ rest)
    (texels_of-append n xs ys (omega arith))
texels_of-append zero (r ∷ xs) ys full = absurd (omega arith)
texels_of-append (suc n) [] ys full = absurd (omega arith)
texels_of-append (suc n) (r ∷ []) ys full = absurd (omega arith)
texels_of-append (suc n) (r ∷ g ∷ []) ys full = absurd (omega arith)
texels_of-append (suc n) (r ∷ g ∷ b ∷ []) ys full = absurd (omega arith)

-- rows of texels of four bytes have no padding
whole_rows : (w : ℕ) → row_size Rgba8 w ≡ 4 * w
whole_rows w = omega arith

pub rows_whole : (w n : ℕ) (bytes : List ℕ) → length bytes ≡ row_size Rgba8 w * n → texels_of bytes
    ≡ rows_in Rgba8 w n bytes
rows_whole w zero [] full = refl
rows_whole w zero (b ∷ bytes) full = absurd (omega arith)
rows_whole w (suc n) bytes full =
    let row : ℕ = 4 * w in
    let size : length bytes ≡ row * suc n = rw (← whole_rows w) full in
    let long : row ≤ length bytes = omega (arith, size) in
    let rest : length (drop row bytes) ≡ row_size Rgba8 w * n =
    rw (whole_rows w) (omega (arith, size, length-drop row bytes)) in
    ap texels_of (sym (take-append-drop row bytes))
    ∙ sym (texels_of-append w (take row bytes) (drop row bytes) (length-take-le row bytes long))
    ∙ rw (whole_rows w) (ap (λ ts. texels_of (take row bytes) ++ ts)
    (rows_whole w n (drop row bytes) rest))

-- each texel has four bytes
abbrev Four : List ℕ → Type 0
Four texel = length texel ≡ 4

both : (xs ys : List (List ℕ)) → AllByRecursion Four xs → AllByRecursion Four ys
    → AllByRecursion Four (xs ++ ys)
both [] ys all more = more
both (x ∷ xs) ys all more = (all.0, both xs ys all.1 more)

from_rgb_four : (bytes : List ℕ) → AllByRecursion Four (from_rgb bytes)
from_rgb_four (r ∷ g ∷ b ∷ rest) = (refl, from_rgb_four rest)
from_rgb_four [] = tt
from_rgb_four (r ∷ []) = tt
from_rgb_four (r ∷ g ∷ []) = tt

rows_four : (w n : ℕ) (bytes : List ℕ) → AllByRecursion Four (rows_in Rgb8 w n bytes)
rows_four w zero bytes = tt
rows_four w (suc n) bytes = both (from_rgb (take (3 * w) bytes))
    (rows_in Rgb8 w n (drop (row_size Rgb8 w) bytes)) (from_rgb_four (take (3 * w) bytes))
    (rows_four w n (drop (row_size Rgb8 w) bytes))

length-from_rgb : (n : ℕ) (bytes : List ℕ) → length bytes ≡ 3 * n → length (from_rgb bytes) ≡ n
length-from_rgb zero [] full = refl
length-from_rgb (suc n) (r ∷ g ∷ b ∷ rest) full = ap suc (length-from_rgb n rest (omega arith))
length-from_rgb zero (r ∷ rest) full = absurd (omega arith)
length-from_rgb (suc n) [] full = absurd (omega arith)
length-from_rgb (suc n) (r ∷ []) full = absurd (omega arith)
length-from_rgb (suc n) (r ∷ g ∷ []) full = absurd (omega arith)

length-rows_in : (w n row : ℕ) (bytes : List ℕ) → row ≡ row_size Rgb8 w → length bytes ≡ row * n
    → length (rows_in Rgb8 w n bytes) ≡ w * n
length-rows_in w zero row bytes is full = omega arith
length-rows_in w (suc n) row bytes is full =
    let long : 3 * w ≤ length bytes = omega (arith, is, full) in
    let size : length (drop row bytes) ≡ row * n = omega (arith, full, length-drop row bytes) in
    let first : length (from_rgb (take (3 * w) bytes)) ≡ w = length-from_rgb w (take (3 * w) bytes)
    (length-take-le (3 * w) bytes long) in
    let more : length (rows_in Rgb8 w n (drop row bytes)) ≡ w * n =
    length-rows_in w n row (drop row bytes) is size in
    let same : length (rows_in Rgb8 w n (drop (row_size Rgb8 w) bytes)) ≡ w * n = rw is at more in
    omega (
      arith,
      first,
      same,
      length-append (from_rgb (take (3 * w) bytes))
          (rows_in Rgb8 w n (drop (row_size Rgb8 w) bytes)),
    )

-- the raster of rows of three bytes per texel
pub rows_widened : (w n : ℕ) (raster bytes : List ℕ) → raster ≡ bytes_of (rows_in Rgb8 w n bytes)
    → texels_of raster ≡ rows_in Rgb8 w n bytes
rows_widened w n raster bytes is = ap texels_of is ∙ texels_of-bytes_of (rows_in Rgb8 w n bytes)
    (rows_four w n bytes)

pub length_widened : (w n : ℕ) (raster bytes : List ℕ) → raster ≡ bytes_of (rows_in Rgb8 w n bytes)
    → length bytes ≡ row_size Rgb8 w * n → length raster ≡ 4 * (w * n)
length_widened w n raster bytes is full =
    ap length is ∙ length-bytes_of (rows_in Rgb8 w n bytes) (rows_four w n bytes)
    ∙ ap (λ k. 4 * k) (length-rows_in w n (row_size Rgb8 w) bytes refl full)

-- one row more
pub row_on : (w count counter : ℕ) (texels after row rest behind total : List ℕ) → counter < count
    → row ≡ take (3 * w) rest → behind ≡ drop (row_size Rgb8 w) rest
    → after ≡ texels ++ bytes_of (from_rgb row)
    → texels ++ bytes_of (rows_in Rgb8 w (count - counter) rest) ≡ total
    → after ++ bytes_of (rows_in Rgb8 w (count - (counter + 1)) behind) ≡ total
row_on w count counter texels after row rest behind total less r h grown so_far =
    let k : count - counter ≡ suc (count - (counter + 1)) = omega arith in
    let more : List (List ℕ) = rows_in Rgb8 w (count - (counter + 1))
    (drop (row_size Rgb8 w) rest) in
    let step : bytes_of (rows_in Rgb8 w (count - counter) rest)
    ≡ bytes_of (from_rgb (take (3 * w) rest)) ++ bytes_of more =
    ap (λ n. bytes_of (rows_in Rgb8 w n rest)) k
    ∙ flat_map-append (λ t. t) (from_rgb (take (3 * w) rest)) more in
    rw (grown, r, h) (append_assoc texels (bytes_of (from_rgb (take (3 * w) rest))) (bytes_of more)
    ∙ ap (λ xs. texels ++ xs) (sym step) ∙ so_far)

-- the row of a piece
pub row_of_piece : (n m : ℕ) (bytes : List ℕ) → n ≤ m → take n (take m bytes) ≡ take n bytes
row_of_piece zero m bytes few = refl
row_of_piece (suc n) zero bytes few = absurd (omega arith)
row_of_piece (suc n) (suc m) [] few = refl
row_of_piece (suc n) (suc m) (b ∷ bytes) few =
    ap (λ xs. b ∷ xs) (row_of_piece n m bytes (omega arith))

-- what is left behind one row more
pub row_size_left : (row count counter rest behind : ℕ) → counter < count → rest
    ≡ row * (count - counter) → behind + row ≡ rest → behind ≡ row * (count - (counter + 1))
row_size_left row count counter rest behind less size is =
    let k : count - counter ≡ suc (count - (counter + 1)) = omega arith in
    let all : rest ≡ row * suc (count - (counter + 1)) = size ∙ ap (λ n. row * n) k in
    omega (arith, all)

-- all rows
pub rows_end : (w n : ℕ) (texels rest total : List ℕ) → n ≡ 0
    → texels ++ bytes_of (rows_in Rgb8 w n rest) ≡ total → texels ≡ total
rows_end w n texels rest total none all =
    sym (ap (λ k. texels ++ bytes_of (rows_in Rgb8 w k rest)) none ∙ append-nil texels) ∙ all
