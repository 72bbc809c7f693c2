-- Mip chains of images.
use Rattle.std.specs.Prelude.{◌≡◌, ℕ, zero, suc, ◌+◌, ◌-◌, ◌*◌, ◌/◌, ◌%◌, min, List, [], ◌∷◌, map, slice_index_or}
use Rattle.std.specs.List.{flat_map, range_with_len}
use Rattle.astc_model.specs.Chains.{side_at_level}
use Rattle.images.specs.Pictures.{Pictures, texel_of}

-- a channel of four texels, their mean rounded to the nearest integer and up from the middle
abbrev pub mean_channel : List ℕ → List ℕ → List ℕ → List ℕ → ℕ → ℕ
mean_channel a b c d k =
    (slice_index_or a k 0 + slice_index_or b k 0 + slice_index_or c k 0 + slice_index_or d k 0 + 2)
    / 4

-- the mean of four texels, channel by channel
abbrev pub mean_texel : List ℕ → List ℕ → List ℕ → List ℕ → List ℕ
mean_texel a b c d = mean_channel a b c d 0 ∷ mean_channel a b c d 1 ∷ mean_channel a b c d 2
    ∷ mean_channel a b c d 3 ∷ []

-- A texel of the next level is the mean of four: of two columns and two rows, which are equal if
-- the side is 1.
unfoldable pub halved_texel : Pictures → ℕ → ℕ → ℕ → List ℕ
halved_texel images image x y =
    mean_texel
    (texel_of images image (min (2 * x) (images.width - 1)) (min (2 * y) (images.height - 1)))
    (texel_of images image (min (2 * x + 1) (images.width - 1)) (min (2 * y) (images.height - 1)))
    (texel_of images image (min (2 * x) (images.width - 1)) (min (2 * y + 1) (images.height - 1)))
    (texel_of images image (min (2 * x + 1) (images.width - 1))
    (min (2 * y + 1) (images.height - 1)))

-- a row of the next level
unfoldable pub halved_row : Pictures → ℕ → ℕ → List (List ℕ)
halved_row images image y = map (λ x. halved_texel images image x y)
    (range_with_len 0 (side_at_level images.width 1))

-- the rows of the next level from the top, the images one after another
unfoldable pub halved_rows : Pictures → ℕ → List (List ℕ)
halved_rows images count =
    flat_map (λ row. halved_row images (row / side_at_level images.height 1)
    (row % side_at_level images.height 1)) (range_with_len 0 count)

-- the next level
unfoldable pub halved : Pictures → Pictures
halved images = record {
  width = side_at_level images.width 1;
  height = side_at_level images.height 1;
  count = images.count;
  texels = halved_rows images (side_at_level images.height 1 * images.count);
}

-- the images at a level
abbrev pub images_at_level : Pictures → ℕ → Pictures
images_at_level images zero = images
images_at_level images (suc level) = halved (images_at_level images level)

-- the first levels of a chain
unfoldable pub chain_of : Pictures → ℕ → List Pictures
chain_of images levels = map (images_at_level images) (range_with_len 0 levels)

-- The relation of a level to level 0: its sides, halved as often, and the same number of images.
pub record IsLevel (images now : Pictures) (level : ℕ) : Type 0 where
  pub width : now.width ≡ side_at_level images.width level
  pub height : now.height ≡ side_at_level images.height level
  pub count : now.count ≡ images.count
