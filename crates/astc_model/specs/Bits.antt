-- Bits and fields of a block, which is a natural number below 2 ^ 128: bit k of the block is bit k
-- of the number (Khronos Data Format Specification, ASTC, "Block Layout").
use Rattle.std.specs.Prelude.{ℕ, ◌+◌, ◌-◌, ◌*◌, List, [], ◌∷◌}
use Rattle.std.proofs.Common.{zero, suc}
use Rattle.std.specs.Int.{bit_at}

-- the field of n bits from bit k; bit k is its least significant bit
unfoldable pub field_of : ℕ → ℕ → ℕ → ℕ
field_of block k zero = 0
field_of block k (suc n) = bit_at block k + 2 * field_of block (k + 1) n

-- the field of n bits from bit 127 - k downwards, in reverse order: bit 127 - k is its least
-- significant bit, as for the weights
unfoldable pub top_field : ℕ → ℕ → ℕ → ℕ
top_field block k zero = 0
top_field block k (suc n) = bit_at block (127 - k) + 2 * top_field block (k + 1) n

-- the number whose bytes, the lowest first, are in the list
abbrev pub number_of : List ℕ → ℕ
number_of [] = 0
number_of (byte ∷ bytes) = number_of bytes * 256 + byte
