-- The header of a plain `.astc` file: the magic number, one byte each for width, height and depth
-- of the blocks, and 24 bits each, low byte first, for width, height and depth of the image. Both
-- depths are 1.
use Rattle.std.specs.Prelude.{ℕ, ◌*◌, ◌==◌, ◌&&◌, nat_lt, if◌then◌else◌, List, [], ◌∷◌, ◌++◌, length, drop, slice_index, Option, None, Some, Result, Ok, Err, find}
use Rattle.byteorder.specs.Endian.{little_bytes, little_number}
use Rattle.astc_model.specs.Limits.{most_texels}
use Rattle.astc_model.specs.FootprintNames.{sides_of}
use Rattle.astc_model.specs.declared.footprint_name.FootprintName.{FootprintName}
use Rattle.ktx_header.specs.Chaining.{◌>>=◌}
use Rattle.ktx_header.specs.Extents.{is_side}
use Rattle.ktx_header.specs.Footprints.{footprint_names}
use Rattle.ktx_header.specs.Words.{first_difference}
use Rattle.astc_file.specs.declared.fault.AstcFault.{AstcFault}
use Rattle.astc_file.specs.declared.fault.AstcFault.TheVariants.{ShortHeader, BadMagic, BadFootprint, BadSides, TooManyTexels}
pub use Rattle.astc_file.specs.declared.header.AstcHeader.{AstcHeader}

-- 0x5CA1AB13, the low byte first
abbrev pub magic : List ℕ
magic = 0x13 ∷ 0xAB ∷ 0xA1 ∷ 0x5C ∷ []

-- the 16 bytes in front of the blocks
unfoldable pub header_of : FootprintName → ℕ → ℕ → List ℕ
header_of name width height =
    magic ++ ((sides_of name).0 ∷ (sides_of name).1 ∷ 1 ∷ []) ++ little_bytes 3 width
    ++ little_bytes 3 height ++ little_bytes 3 1

-- there are 16 bytes
abbrev pub long_enough : List ℕ → Result (Unit {0}) AstcFault
long_enough front = if nat_lt (length front) 16 then Err (ShortHeader (length front)) else Ok tt

-- the first byte that is not the magic number's, if there is one
abbrev pub identified : Option ℕ → Result (Unit {0}) AstcFault
identified None = Ok tt
identified (Some place) = Err (BadMagic place)

-- the footprint of this width and height
unfoldable pub footprint_at : ℕ → ℕ → Option FootprintName
footprint_at width height = find (λ name. (sides_of name).0 == width && (sides_of name).1 == height)
    footprint_names

-- the footprint that was found, or else the fault of the blocks' width, height and depth
abbrev pub known : Option FootprintName → ℕ → ℕ → ℕ → Result FootprintName AstcFault
known None width height depth = Err (BadFootprint width height depth)
known (Some name) width height depth = Ok name

-- the footprint of the blocks' sides
abbrev pub footprint_in : ℕ → ℕ → ℕ → Result FootprintName AstcFault
footprint_in width height depth =
    if depth == 1 then known (footprint_at width height) width height depth
    else Err (BadFootprint width height depth)

-- sides in range, one slice, and not too many texels
abbrev pub sides_fit : ℕ → ℕ → ℕ → Result (Unit {0}) AstcFault
sides_fit width height depth =
    if depth == 1 && is_side width && is_side height
    then (if nat_lt most_texels (width * height) then Err (TooManyTexels (width * height))
    else Ok tt)
    else Err (BadSides width height depth)

-- the number of 24 bits at a place
unfoldable pub number_at : ℕ → List ℕ → ℕ
number_at place bytes = little_number 3 (drop place bytes)

-- the header of a file whose first bytes, 16 at most, these are
unfoldable pub header_in : List ℕ → Result AstcHeader AstcFault
header_in front = do
  long ← long_enough front
  same ← identified (first_difference 0 magic front)
  name ← footprint_in (slice_index front 4) (slice_index front 5) (slice_index front 6)
  fits ← sides_fit (number_at 7 front) (number_at 10 front) (number_at 13 front)
  Ok (record { name = name; width = number_at 7 front; height = number_at 10 front })
