-- The sizes of mip levels.
use Rattle.std.specs.Prelude.{ℕ, ◌+◌, ◌/◌, ◌^◌, max, nat_le, if◌then◌else◌}
use Rattle.std.proofs.Common.{zero, suc}

-- the width or height of a mip level, if level 0 has `side`: halved once per level, rounded down,
-- at least 1
abbrev pub side_at_level : ℕ → ℕ → ℕ
side_at_level side level = max 1 (side / 2 ^ level)

-- the greatest k up to a limit with 2 ^ k at most n; 0 if there is none
abbrev pub exponent_below : ℕ → ℕ → ℕ
exponent_below zero n = 0
exponent_below (suc k) n = if nat_le (2 ^ suc k) n then suc k else exponent_below k n

-- the number of mip levels down to 1 by 1: one more than the greatest k with 2 ^ k at most the
-- longer side. No side is longer than 8192, which is 2 ^ 13.
unfoldable pub full_levels_of : ℕ → ℕ → ℕ
full_levels_of width height = exponent_below 13 (max width height) + 1
