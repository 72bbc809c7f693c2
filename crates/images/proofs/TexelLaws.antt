-- Texels of a raster of four bytes each.
use Rattle.std.proofs.Common.{◌≡◌, ℕ, zero, suc, ◌+◌, ◌*◌, ◌<◌, ◌≤◌, List, [], ◌∷◌, length, length-append, get_or, Some, refl, sym, ◌∙◌, ap, arith}
use Rattle.std.specs.List.{AllByRecursion}
use Rattle.std.proofs.lemmas.Bool.{lt-ltb}
use Rattle.std.proofs.lemmas.Nat.{mul-add-lt}
use Rattle.images.specs.Pictures.{Pictures, IsValid, texels_of, bytes_of, texel_of, texel_at}

pub length-texels_of : (n : ℕ) (bytes : List ℕ) → length bytes ≡ 4 * n → length (texels_of bytes)
    ≡ n
length-texels_of zero [] full = refl
length-texels_of (suc n) (r ∷ g ∷ b ∷ a ∷ rest) full =
    ap suc (length-texels_of n rest (omega arith))
length-texels_of zero (r ∷ rest) full = absurd (omega arith)
length-texels_of (suc n) [] full = absurd (omega arith)
length-texels_of (suc n) (r ∷ []) full = absurd (omega arith)
length-texels_of (suc n) (r ∷ g ∷ []) full = absurd (omega arith)
length-texels_of (suc n) (r ∷ g ∷ b ∷ []) full = absurd (omega arith)

-- four bytes from a place on
abbrev pub four_at : List ℕ → ℕ → List ℕ
four_at bytes at = get_or bytes at 0 ∷ get_or bytes (at + 1) 0 ∷ get_or bytes (at + 2) 0
    ∷ get_or bytes (at + 3) 0 ∷ []

further : (r g b a : ℕ) (rest : List ℕ) (i j : ℕ) → j ≡ i + 4 → get_or (r ∷ g ∷ b ∷ a ∷ rest) j 0
    ≡ get_or rest i 0
further r g b a rest i j e = let past : j ≡ suc (suc (suc (suc i))) = omega arith in rw past refl

four_further : (r g b a : ℕ) (rest : List ℕ) (i j : ℕ) → j ≡ i + 4
    → four_at (r ∷ g ∷ b ∷ a ∷ rest) j ≡ four_at rest i
four_further r g b a rest i j e =
    rw (
      further r g b a rest i j e,
      further r g b a rest (i + 1) (j + 1) (omega arith),
      further r g b a rest (i + 2) (j + 2) (omega arith),
      further r g b a rest (i + 3) (j + 3) (omega arith),
    ) refl

pub get_or-texels_of : (i : ℕ) (bytes : List ℕ) → 4 * i + 4 ≤ length bytes
    → get_or (texels_of bytes) i [] ≡ four_at bytes (4 * i)
get_or-texels_of zero (r ∷ g ∷ b ∷ a ∷ rest) within = refl
get_or-texels_of (suc i) (r ∷ g ∷ b ∷ a ∷ rest) within =
    get_or-texels_of i rest (omega arith)
    ∙ sym (four_further r g b a rest (4 * i) (4 * suc i) (omega arith))
get_or-texels_of i [] within = absurd (omega arith)
get_or-texels_of i (r ∷ []) within = absurd (omega arith)
get_or-texels_of i (r ∷ g ∷ []) within = absurd (omega arith)
get_or-texels_of i (r ∷ g ∷ b ∷ []) within = absurd (omega arith)

-- the place of a texel is one of the raster's
pub place_fits : (w h count image x y : ℕ) → image < count → x < w → y < h
    → image * (w * h) + y * w + x < w * h * count
place_fits w h count image x y image_in column row =
    let in_image : y * w + x < w * h = mul-add-lt y w x h row column in
    let in_all : image * (w * h) + (y * w + x) < w * h * count =
    mul-add-lt image (w * h) (y * w + x) count image_in in_image in
    omega (arith, in_all)

-- the texel of a place inside is its four bytes
pub texel_of-inside : (images : Pictures) (raster : List ℕ) (image x y : ℕ) → images.texels
    ≡ texels_of raster
    → length raster ≡ 4 * (images.width * images.height * images.count) → image < images.count
    → x < images.width → y < images.height
    → texel_of images image x y
    ≡ four_at raster (4 * (image * (images.width * images.height) + y * images.width + x))
texel_of-inside images raster image x y texels full image_in column row =
    let place : ℕ = image * (images.width * images.height) + y * images.width + x in
    let within : place < images.width * images.height * images.count =
    place_fits images.width images.height images.count image x y image_in column row in
    rw texels (get_or-texels_of place raster (omega arith))

-- a place inside has a texel
pub texel_at-inside : (images : Pictures) (image x y : ℕ) (texel : List ℕ) → x < images.width
    → y < images.height → texel ≡ texel_of images image x y → texel_at images image x y ≡ Some texel
texel_at-inside images image x y texel column row is =
    rw (lt-ltb x images.width column, lt-ltb y images.height row) (ap Some (sym is))

-- images of a whole raster
pub raster_is_valid : (width height count : ℕ) (raster : List ℕ) → 1 ≤ width → width ≤ 8192
    → 1 ≤ height → height ≤ 8192 → 1 ≤ count → length raster ≡ 4 * (width * height * count)
    → IsValid (record { width = width; height = height; count = count; texels = texels_of raster })
raster_is_valid width height count raster width_some width_most height_some height_most count_some
    full = record {
      width_some = width_some;
      width_most = width_most;
      height_some = height_some;
      height_most = height_most;
      count_some = count_some;
      full = length-texels_of (width * height * count) raster full;
    }

-- texels of four bytes each, one after another
pub texels_of-bytes_of : (texels : List (List ℕ))
    → AllByRecursion (λ texel. length texel ≡ 4) texels → texels_of (bytes_of texels) ≡ texels
texels_of-bytes_of [] four = refl
texels_of-bytes_of ((r ∷ g ∷ b ∷ a ∷ []) ∷ texels) four = ap (λ rest. (r ∷ g ∷ b ∷ a ∷ []) ∷ rest)
    (texels_of-bytes_of texels four.1)
texels_of-bytes_of ([] ∷ texels) four = absurd (omega (arith, four.0))
texels_of-bytes_of ((r ∷ []) ∷ texels) four = absurd (omega (arith, four.0))
texels_of-bytes_of ((r ∷ g ∷ []) ∷ texels) four = absurd (omega (arith, four.0))
texels_of-bytes_of ((r ∷ g ∷ b ∷ []) ∷ texels) four = absurd (omega (arith, four.0))
texels_of-bytes_of ((r ∷ g ∷ b ∷ a ∷ more ∷ texel) ∷ texels) four = absurd (omega (arith, four.0))

pub length-bytes_of : (texels : List (List ℕ)) → AllByRecursion (λ texel. length texel ≡ 4) texels
    → length (bytes_of texels) ≡ 4 * length texels
length-bytes_of [] four = refl
length-bytes_of (texel ∷ texels) four =
    omega (arith, four.0, length-append texel (bytes_of texels), length-bytes_of texels four.1)

pub bytes_of-texels_of : (n : ℕ) (bytes : List ℕ) → length bytes ≡ 4 * n
    → bytes_of (texels_of bytes) ≡ bytes
bytes_of-texels_of zero [] full = refl
bytes_of-texels_of (suc n) (r ∷ g ∷ b ∷ a ∷ rest) full =
    ap (λ xs. r ∷ g ∷ b ∷ a ∷ xs) (bytes_of-texels_of n rest (omega arith))
bytes_of-texels_of zero (r ∷ rest) full = absurd (omega arith)
bytes_of-texels_of (suc n) [] full = absurd (omega arith)
bytes_of-texels_of (suc n) (r ∷ []) full = absurd (omega arith)
bytes_of-texels_of (suc n) (r ∷ g ∷ []) full = absurd (omega arith)
bytes_of-texels_of (suc n) (r ∷ g ∷ b ∷ []) full = absurd (omega arith)
