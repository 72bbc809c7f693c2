-- The images that a texture is decoded to: a PAM image of four bytes per texel for each level,
-- element and face.
use Rattle.std.specs.Prelude.{◌≡◌, ℕ, ◌+◌, ◌*◌, ◌-◌, ◌/◌, ◌%◌, ◌==◌, min, if◌then◌else◌, List, [], ◌++◌, map, sum, take, drop, slice_index_or}
use Rattle.std.specs.List.{flat_map, range_with_len}
use Rattle.astc_model.specs.Chains.{side_at_level}
use Rattle.astc_model.specs.FootprintNames.{sides_of}
use Rattle.astc_model.specs.Shown.{shown}
use Rattle.pam_header.specs.Written.{header_text}
use Rattle.texture.specs.Shapes.{image_count, image_blocks}
use Rattle.texture.specs.Places.{place_of, image_place}
use Rattle.texture.specs.declared.rows.BlockRow.{BlockRow}
use Rattle.ktx_file.specs.Files.{File}
use Rattle.texture.specs.declared.places.ImagePlace.{ImagePlace}
use Rattle.unpacking.specs.declared.unpacked_image.UnpackedImage.{UnpackedImage}
use Rattle.unpacking.specs.Bands.{faults_of}
use Rattle.unpacking.specs.Reports.{report_lines}

-- the block of an image in a row and a column of blocks
abbrev pub block_at : File → ImagePlace → ℕ → ℕ → List ℕ
block_at file place row column =
    slice_index_or file.blocks (place_of file.shape place.level place.element place.face row column)
    []

-- the texel that the texture shows in column x and row y of an image
abbrev pub texel_at : File → ImagePlace → ℕ → ℕ → List ℕ
texel_at file place x y =
    shown (sides_of file.shape.name).0 (sides_of file.shape.name).1 file.shape.flavour
    (block_at file place (y / (sides_of file.shape.name).1) (x / (sides_of file.shape.name).0))
    (x % (sides_of file.shape.name).0) (y % (sides_of file.shape.name).1)

-- the texels of a row
unfoldable pub row_of : File → ImagePlace → ℕ → List ℕ
row_of file place y = flat_map (λ x. texel_at file place x y)
    (range_with_len 0 (side_at_level file.shape.width place.level))

-- the texels of an image, in rows from the top
unfoldable pub raster_of : File → ImagePlace → List ℕ
raster_of file place = flat_map (row_of file place)
    (range_with_len 0 (side_at_level file.shape.height place.level))

-- the rows of texels of a row of blocks: as many as a block has, or as are left of the image
abbrev pub rows_in : File → ImagePlace → ℕ → ℕ
rows_in file place row =
    min (side_at_level file.shape.height place.level - row * (sides_of file.shape.name).1)
    (sides_of file.shape.name).1

-- the texels of a row of blocks, in rows from the top
unfoldable pub band_of : File → ImagePlace → ℕ → List ℕ
band_of file place row =
    flat_map (row_of file place) (range_with_len (row * (sides_of file.shape.name).1)
    (rows_in file place row))

-- a PAM image
unfoldable pub image_of : File → ImagePlace → List ℕ
image_of file place = header_text (side_at_level file.shape.width place.level)
    (side_at_level file.shape.height place.level) ++ raster_of file place

-- the header in front of the first row of blocks of an image, and nothing in front of the others
abbrev pub header_before : BlockRow → ℕ → ℕ → List ℕ
header_before row width height = if row.row == 0 then header_text width height else []

-- the place of an image of a level
abbrev pub place_in : File → ℕ → ℕ → ImagePlace
place_in file level image = image_place file.shape.faces level image

-- what is put for a row of blocks: the header in front of the first row of an image, and the texels
unfoldable pub piece_of : File → BlockRow → List ℕ
piece_of file row =
    header_before row (side_at_level file.shape.width row.level)
    (side_at_level file.shape.height row.level)
    ++ band_of file (place_in file row.level row.image) row.row

-- the images of a level, by element and then by face
unfoldable pub level_of : File → ℕ → List ℕ
level_of file level = flat_map (λ image. image_of file (place_in file level image))
    (range_with_len 0 (image_count file.shape))

-- all images, level by level
unfoldable pub unpacked : File → List ℕ
unpacked file = flat_map (level_of file) (range_with_len 0 file.shape.levels)

-- 1 for each block of the texture that can't be read, 0 for each other
abbrev pub all_faults : File → List ℕ
all_faults file = faults_of (sides_of file.shape.name).0 (sides_of file.shape.name).1 file.blocks

-- those of a row of blocks
abbrev pub row_faults : File → BlockRow → List ℕ
row_faults file row = faults_of (sides_of file.shape.name).0 (sides_of file.shape.name).1
    (take row.columns (drop row.first file.blocks))

-- the number of unreadable blocks of an image
unfoldable pub illegal_in : File → ImagePlace → ℕ
illegal_in file place =
    sum (take (image_blocks file.shape place.level)
    (drop (place_of file.shape place.level place.element place.face 0 0) (all_faults file)))

-- the report on an image
unfoldable pub told_of : File → ImagePlace → UnpackedImage
told_of file place = record {
  place = place;
  blocks = image_blocks file.shape place.level;
  illegal = illegal_in file place;
}

-- of the images of a level, by element and then by face
unfoldable pub level_told : File → ℕ → List UnpackedImage
level_told file level = map (λ image. told_of file (place_in file level image))
    (range_with_len 0 (image_count file.shape))

-- of all images, level by level
unfoldable pub all_told : File → List UnpackedImage
all_told file = flat_map (level_told file) (range_with_len 0 file.shape.levels)

-- what an unpack makes of a texture
pub record Unpacks (file : File) (bytes : List ℕ) (lines : List (List ℕ)) : Type 0 where
  pub images : bytes ≡ unpacked file
  pub told : lines ≡ report_lines (all_told file)

-- a prefix of k bytes of the images
abbrev pub BeginsUnpack : File → ℕ → List ℕ → Type 0
BeginsUnpack file k bytes = bytes ≡ unpacked file
