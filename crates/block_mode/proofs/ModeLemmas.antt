-- The bits of a mode.
use Rattle.std.proofs.Common.{◌≡◌, ℕ, ◌-◌, ◌*◌, ◌%◌, ◌^◌, ◌<◌, ◌∙◌, ap, bit_and}
use Rattle.std.proofs.lemmas.Nat.{and_mask, one_shl}

-- a mask of n ones gives the low n bits
pub bits_by_mask : (x n : ℕ) → n < 16 → bit_and x (1 * 2 ^ n % 2 ^ 16 - 1) ≡ x % 2 ^ n
bits_by_mask x n within = ap (λ m. bit_and x (m - 1)) (one_shl n 16 within) ∙ and_mask x n
