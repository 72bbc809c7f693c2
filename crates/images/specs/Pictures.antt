-- Pictures as plain data: sides, and texels of four bytes by image and rows from the top.
use Rattle.std.specs.Prelude.{◌≡◌, ◌≤◌, ℕ, ◌+◌, ◌*◌, ◌/◌, ◌%◌, nat_lt, ◌&&◌, if◌then◌else◌, List, [], ◌∷◌, Option, None, Some, length, map, slice_index_or}
use Rattle.std.specs.List.{flat_map, range_with_len}

-- images of one size
pub record Pictures : Type 0 where
  pub width : ℕ
  pub height : ℕ
  pub count : ℕ
  pub texels : List (List ℕ)

-- sides of 1 to 8192, an image at least, and a texel for each place
pub record IsValid (images : Pictures) : Type 0 where
  pub width_some : 1 ≤ images.width
  pub width_most : images.width ≤ 8192
  pub height_some : 1 ≤ images.height
  pub height_most : images.height ≤ 8192
  pub count_some : 1 ≤ images.count
  pub full : length images.texels ≡ images.width * images.height * images.count

-- four bytes per texel: red, green, blue, alpha
abbrev pub texels_of : List ℕ → List (List ℕ)
texels_of (red ∷ green ∷ blue ∷ alpha ∷ rest) = (red ∷ green ∷ blue ∷ alpha ∷ []) ∷ texels_of rest
texels_of rest = []

-- the bytes of texels, one after another
abbrev pub bytes_of : List (List ℕ) → List ℕ
bytes_of texels = flat_map (λ texel. texel) texels

-- the texel of an image in column x and row y
abbrev pub texel_of : Pictures → ℕ → ℕ → ℕ → List ℕ
texel_of images image x y =
    slice_index_or images.texels (image * (images.width * images.height) + y * images.width + x) []

-- the same, none outside the image
abbrev pub texel_at : Pictures → ℕ → ℕ → ℕ → Option (List ℕ)
texel_at images image x y = if nat_lt x images.width && nat_lt y images.height
    then Some (texel_of images image x y) else None

-- the source of the block of w by h texels in this column and row of blocks, its places in rows
-- from the top
unfoldable pub source_of : ℕ → ℕ → Pictures → ℕ → ℕ → ℕ → List (Option (List ℕ))
source_of w h images image column row =
    map (λ p. texel_at images image (column * w + p % w) (row * h + p / w))
    (range_with_len 0 (w * h))
