-- The report of the errors of blocks: of all that a texture has, or of a range of them.
use Rattle.std.specs.Prelude.{ℕ, ◌+◌, ◌-◌, ◌==◌, max, if◌then◌else◌, List, [], ◌∷◌, ◌++◌, codes, length, map, take, drop, sum}
use Rattle.std.specs.Fmt.{decimal}
use Rattle.std.specs.List.{flat_map, range_with_len}
use Rattle.texture.specs.declared.shape.Shape.{Shape}
use Rattle.texture.specs.Shapes.{image_blocks, image_count}
use Rattle.texture.specs.Places.{image_place, first_block}
use Rattle.outcomes.specs.Reports.{image_text}
use Rattle.packed_levels.specs.declared.sums.PackedImage.{PackedImage}

-- `level L element E face F blocks N error S`
abbrev pub image_line : PackedImage → List ℕ
image_line image = image_text image.place image.blocks
    (codes " error " ++ (decimal image.error ++ 10 ∷ []))

-- `total S`
abbrev pub total_line : ℕ → List ℕ
total_line total = codes "total " ++ (decimal total ++ 10 ∷ [])

-- a line for each image, then the total
abbrev pub lines_of : List PackedImage → ℕ → List (List ℕ)
lines_of images total = map image_line images ++ total_line total ∷ []

-- of errors that begin with that of the block `start` those of `count` blocks from the block
-- `first` on
abbrev pub share : ℕ → List ℕ → ℕ → ℕ → List ℕ
share start errors first count = take (first + count - max start first)
    (drop (first - start) errors)

-- the report on an image whose blocks of the range have these errors: nothing without such a block
abbrev pub share_told : Shape → ℕ → ℕ → List ℕ → List PackedImage
share_told shape level image errors =
    if length errors == 0 then [] else record {
      place = image_place shape.faces level image;
      blocks = length errors;
      error = sum errors;
    } ∷ []

-- the same of an image of a level, by errors that begin with that of the block `start`
abbrev pub image_told : Shape → ℕ → List ℕ → ℕ → ℕ → List PackedImage
image_told shape start errors level image =
    share_told shape level image (share start errors (first_block shape level image)
    (image_blocks shape level))

-- of the images of a level, by element and then by face
abbrev pub level_told : Shape → ℕ → List ℕ → ℕ → List PackedImage
level_told shape start errors level = flat_map (image_told shape start errors level)
    (range_with_len 0 (image_count shape))

-- of all images, if the errors are those of the blocks from the number `start` on
unfoldable pub range_told : Shape → ℕ → List ℕ → List PackedImage
range_told shape start errors = flat_map (level_told shape start errors)
    (range_with_len 0 shape.levels)

-- a line for each image that has blocks of the range, then the sum of their errors
abbrev pub range_lines : Shape → ℕ → List ℕ → List (List ℕ)
range_lines shape start errors = lines_of (range_told shape start errors) (sum errors)

-- the report of a texture whose blocks have these errors, in the order of the blocks
abbrev pub report_lines : Shape → List ℕ → List (List ℕ)
report_lines shape errors = range_lines shape 0 errors
