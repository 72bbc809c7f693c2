-- Sides, elements, faces and levels, as a header says them, or the first fault (Khronos KTX file
-- format, version 1).
use Rattle.std.specs.Prelude.{◌≡◌, ◌≤◌, ◌⊎◌, ℕ, ◌*◌, max, nat_le, nat_lt, ◌==◌, ◌&&◌, Bool, if◌then◌else◌, Result, Ok, Err}
use Rattle.astc_model.specs.Chains.{full_levels_of}
use Rattle.astc_model.specs.Limits.{most_side, most_texels}
use Rattle.ktx_header.specs.declared.fault.HeaderFault.TheVariants.{BadSides, HasDepth, TooManyElements, BadFaces, FacesNotSquare, TooManyLevels, KeysTooLong, TooLarge}
use Rattle.texture.specs.declared.extent.Extent.{Extent}
use Rattle.texture.specs.Extents.{most_elements}
use Rattle.ktx_header.specs.Words.{HeaderWords, HeaderFault, passed}
use Rattle.ktx_header.specs.Chaining.{◌>>=◌}

-- the most bytes of keys
abbrev pub most_key_bytes : ℕ
most_key_bytes = 1048576

-- a side has 1 to 8192 texels
abbrev pub is_side : ℕ → Bool
is_side n = nat_le 1 n && nat_le n most_side

-- sides in range, and no more than one slice
abbrev pub sides_fit : HeaderWords → Result (Unit {0}) HeaderFault
sides_fit words =
    if is_side words.width && is_side words.height
    then (if nat_lt 1 words.depth then Err (HasDepth words.depth) else passed)
    else Err (BadSides words.width words.height)

-- one face, or six that are square
abbrev pub faces_fit : HeaderWords → Result (Unit {0}) HeaderFault
faces_fit words =
    if words.faces == 1 then passed
    else (if words.faces == 6
    then (if words.width == words.height then passed
    else Err (FacesNotSquare words.width words.height))
    else Err (BadFaces words.faces))

-- not too many array elements, and faces that fit
abbrev pub images_fit : HeaderWords → Result (Unit {0}) HeaderFault
images_fit words = if nat_lt most_elements words.elements
    then Err (TooManyElements words.elements) else faces_fit words

-- the texels of level 0
abbrev pub texels_of : HeaderWords → ℕ
texels_of words = words.width * words.height * (max 1 words.elements * words.faces)

-- no more levels than a full mip chain has, and not too many bytes of key/value data and texels
abbrev pub sizes_fit : HeaderWords → Result (Unit {0}) HeaderFault
sizes_fit words =
    if nat_lt (full_levels_of words.width words.height) words.levels
    then Err (TooManyLevels words.levels)
    else (if nat_lt most_key_bytes words.key_bytes then Err (KeysTooLong words.key_bytes)
    else (if nat_lt most_texels (texels_of words) then Err (TooLarge (texels_of words))
    else passed))

-- what the words say; levels 0 means one
unfoldable pub extent_of : HeaderWords → Result Extent HeaderFault
extent_of words = do
  sides ← sides_fit words
  images ← images_fit words
  sizes ← sizes_fit words
  Ok (record {
    width = words.width;
    height = words.height;
    elements = words.elements;
    faces = words.faces;
    levels = max 1 words.levels;
  })

-- what the tests find
pub record HasSides (words : HeaderWords) : Type 0 where
  pub width_some : 1 ≤ words.width
  pub width_most : words.width ≤ most_side
  pub height_some : 1 ≤ words.height
  pub height_most : words.height ≤ most_side

-- what they find of the array elements and the faces
pub record HasImages (words : HeaderWords) : Type 0 where
  pub elements_most : words.elements ≤ most_elements
  pub faces_known : (words.faces ≡ 1) ⊎ (words.faces ≡ 6)
  pub faces_most : words.faces ≤ 6
  pub square : words.faces ≡ 6 → words.width ≡ words.height

-- what they find of the levels, the key/value data and the texels; no chain has over 14 levels
pub record HasSizes (words : HeaderWords) : Type 0 where
  pub levels_few : max 1 words.levels ≤ 14
  pub levels_most : max 1 words.levels ≤ full_levels_of words.width words.height
  pub keys_most : words.key_bytes ≤ most_key_bytes
  pub not_too_large : texels_of words ≤ most_texels
