-- Exchanges of neighbouring runs of bits, from which the reversal of a block is made.
use Rattle.std.specs.Prelude.{ℕ, ◌+◌, ◌-◌, ◌/◌, ◌%◌, Bool, ◌==◌, ◌&&◌, ◌||◌, nat_lt, nat_le, if◌then◌else◌}
use Rattle.std.specs.Int.{bit_at}
use Rattle.astc_model.specs.Sums.{all_below}

-- the position of the bit with which bit k is exchanged, in the neighbouring run of w bits
abbrev pub partner : ℕ → ℕ → ℕ
partner w k = if k / w % 2 == 0 then k + w else k - w

-- whether the mask has bit k exactly if k is in the lower one of two runs, and is consistent there
-- with the bit w positions below
abbrev pub is_split_at : ℕ → ℕ → ℕ → Bool
is_split_at w mask k =
    if k / w % 2 == 0 then (bit_at mask k == 1) && (nat_lt k w || (bit_at mask (k - w) == 0))
    else (bit_at mask k == 0) && (nat_le w k && (bit_at mask (k - w) == 1))

-- whether the mask has the bits of the lower run of each pair
unfoldable pub is_lower_runs : ℕ → ℕ → Bool
is_lower_runs w mask = all_below (is_split_at w mask) 128
