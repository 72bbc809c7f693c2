-- Texels of a level as they are stored: by image, in rows from the top, each padded to a multiple
-- of four bytes (Khronos KTX file format, version 1).
use Rattle.std.specs.Prelude.{ℕ, zero, suc, ◌+◌, ◌*◌, ◌/◌, ◌==◌, if◌then◌else◌, List, [], ◌∷◌, ◌++◌, take, drop}
use Rattle.astc_model.specs.Chains.{side_at_level}
use Rattle.images.specs.Pictures.{Pictures, texels_of}
use Rattle.texture.specs.declared.extent.Extent.{Extent}
use Rattle.texture.specs.Extents.{images_of}
use Rattle.ktx_source.specs.declared.format.Format.{Format}
use Rattle.ktx_source.specs.declared.format.Format.TheVariants.{Rgb8, Rgba8}

-- the bytes of a texel
abbrev pub texel_size : Format → ℕ
texel_size Rgb8 = 3
texel_size Rgba8 = 4

-- the next multiple of four
abbrev pub padded : ℕ → ℕ
padded n = (n + 3) / 4 * 4

-- the bytes of a row of this number of texels
abbrev pub row_size : Format → ℕ → ℕ
row_size format width = padded (texel_size format * width)

-- red, green and blue; alpha is 255
abbrev pub from_rgb : List ℕ → List (List ℕ)
from_rgb (red ∷ green ∷ blue ∷ rest) = (red ∷ green ∷ blue ∷ 255 ∷ []) ∷ from_rgb rest
from_rgb rest = []

-- texels one after another
abbrev pub texels_in : Format → List ℕ → List (List ℕ)
texels_in Rgb8 bytes = from_rgb bytes
texels_in Rgba8 bytes = texels_of bytes

-- rows of this number of texels: padding is ignored
abbrev pub rows_in : Format → ℕ → ℕ → List ℕ → List (List ℕ)
rows_in format width zero bytes = []
rows_in format width (suc n) bytes = texels_in format (take (texel_size format * width) bytes)
    ++ rows_in format width n (drop (row_size format width) bytes)

-- the bytes of a face of a level
unfoldable pub face_size : Format → Extent → ℕ → ℕ
face_size format extent level = row_size format (side_at_level extent.width level) * side_at_level
    extent.height level

-- the bytes of a level
unfoldable pub level_bytes : Format → Extent → ℕ → ℕ
level_bytes format extent level = images_of extent * face_size format extent level

-- the imageSize of a level: one face without an array, else the whole level
unfoldable pub image_size : Format → Extent → ℕ → ℕ
image_size format extent level =
    if extent.elements == 0 then face_size format extent level else level_bytes format extent level

-- the images of a level, from its bytes
abbrev pub pictures_in : Format → Extent → ℕ → List ℕ → Pictures
pictures_in format extent level bytes = record {
  width = side_at_level extent.width level;
  height = side_at_level extent.height level;
  count = images_of extent;
  texels = rows_in format (side_at_level extent.width level)
      (side_at_level extent.height level * images_of extent) bytes;
}
