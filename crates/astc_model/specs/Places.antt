-- The places of a source, in rows from the top: each has a texel or is outside the image.
use Rattle.std.specs.Prelude.{ℕ, ◌+◌, ◌*◌, ◌/◌, List, Option, None, Some, slice_index, count_by, sum_by, is_some}
use Rattle.std.proofs.Common.{zero, suc}

-- a texel: red, green, blue and alpha
abbrev pub Texel : Type 0
Texel = List ℕ

-- channel c of a texel: 0 is red, 1 green, 2 blue, 3 alpha
abbrev pub channel : ℕ → Texel → ℕ
channel c texel = slice_index texel c

-- channel c of a place's texel; 0 outside the image
abbrev pub channel_at : ℕ → Option Texel → ℕ
channel_at c None = 0
channel_at c (Some texel) = channel c texel

-- the sum of channel c over the inside texels
abbrev pub channel_sum : ℕ → List (Option Texel) → ℕ
channel_sum c places = sum_by (channel_at c) places

-- the number of places inside the image
abbrev pub inside_count : List (Option Texel) → ℕ
inside_count places = count_by is_some places

-- the mean of `count` numbers with this sum, rounded half up; 0 if count is 0
abbrev pub mean_of : ℕ → ℕ → ℕ
mean_of sum zero = 0
mean_of sum (suc n) = (2 * sum + suc n) / (2 * suc n)

-- the mean of a channel over the inside texels
abbrev pub channel_mean : List (Option Texel) → ℕ → ℕ
channel_mean places c = mean_of (channel_sum c places) (inside_count places)
