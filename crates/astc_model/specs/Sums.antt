-- Sums and tests over the numbers below n.
use Rattle.std.specs.Prelude.{ℕ, ◌+◌, Bool, true, ◌&&◌}
use Rattle.std.proofs.Common.{zero, suc}

-- the sum of f over the numbers below n
unfoldable pub sum_to : (ℕ → ℕ) → ℕ → ℕ
sum_to f zero = 0
sum_to f (suc n) = sum_to f n + f n

-- whether p is true for all numbers below n
abbrev pub all_below : (ℕ → Bool) → ℕ → Bool
all_below p zero = true
all_below p (suc n) = all_below p n && p n
