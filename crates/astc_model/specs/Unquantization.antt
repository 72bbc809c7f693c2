-- The steps that the unquantization of colours and of weights share (Khronos Data Format
-- Specification, ASTC, "Endpoint Unquantization" and "Weight Unquantization").
use Rattle.std.specs.Prelude.{ℕ, ◌+◌, ◌-◌, ◌*◌, ◌/◌, ◌^◌, bit_xor, List, [], ◌∷◌}
use Rattle.std.proofs.Common.{zero, suc}

-- n copies of the number i of `bits` bits, one above the other
abbrev pub copies_of : ℕ → ℕ → ℕ → ℕ
copies_of bits i zero = 0
copies_of bits i (suc n) = copies_of bits i n * 2 ^ bits + i

-- bit replication: the bits of i are repeated from the top until they fill the width
abbrev pub replicated : ℕ → ℕ → ℕ → ℕ
replicated width bits i = copies_of bits i width / 2 ^ (bits * width - width)

-- the number with these bits, the highest first, below the bits of `above`
abbrev pub with_bits : ℕ → List ℕ → ℕ
with_bits above [] = above
with_bits above (bit ∷ bits) = with_bits (above * 2 + bit) bits

-- the standard's T: (D * C + B) exclusive or A
abbrev pub mixed : ℕ → ℕ → ℕ → ℕ → ℕ
mixed A B C D = bit_xor (D * C + B) A
