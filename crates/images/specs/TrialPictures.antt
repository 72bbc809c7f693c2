-- The picture of a trial: gradients of red and green over blue of one half, with three bits of
-- noise a channel.
use Rattle.std.specs.Prelude.{ℕ, ◌+◌, ◌-◌, ◌*◌, ◌/◌, ◌%◌, ◌^◌, max, bit_xor, List, [], ◌∷◌, map}
use Rattle.std.specs.List.{range_with_len}
use Rattle.astc_model.specs.Partitions.{hash52}
use Rattle.images.specs.Pictures.{Pictures}

-- the noise of texel (x, y) of the picture with this number
abbrev pub trial_noise : ℕ → ℕ → ℕ → ℕ
trial_noise number x y = hash52 ((number + 8192 * y + x) % 2 ^ 32)

-- the position of place x along a side, 0 to 255
abbrev pub trial_slope : ℕ → ℕ → ℕ
trial_slope side x = 255 * x / max 1 (side - 1)

-- texel (x, y) of the picture of these sides
unfoldable pub trial_texel : ℕ → ℕ → ℕ → ℕ → ℕ → List ℕ
trial_texel number width height x y =
    bit_xor (trial_slope width x) (trial_noise number x y % 8)
    ∷ bit_xor (trial_slope height y) (trial_noise number x y / 8 % 8)
    ∷ bit_xor 128 (trial_noise number x y / 64 % 8)
    ∷ 255 ∷ []

-- the one picture of these sides that has this number
unfoldable pub trial_picture : ℕ → ℕ → ℕ → Pictures
trial_picture number width height = record {
  width = width;
  height = height;
  count = 1;
  texels = map (λ place. trial_texel number width height (place % width) (place / width))
      (range_with_len 0 (width * height));
}
