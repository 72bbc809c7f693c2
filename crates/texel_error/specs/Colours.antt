-- Texels in arrays with four bytes for each place.
use Rattle.std.specs.Prelude.{ℕ, ◌+◌, ◌*◌, List, slice_set}
use Rattle.astc_model.specs.Places.{Texel, channel}

-- the array after texel p is replaced
abbrev pub with_texel : List ℕ → ℕ → Texel → List ℕ
with_texel lanes p texel =
    slice_set (slice_set (slice_set (slice_set lanes (4 * p) (channel 0 texel)) (4 * p + 1)
    (channel 1 texel)) (4 * p + 2) (channel 2 texel)) (4 * p + 3) (channel 3 texel)
