-- The unquantized weights at each level up to 32 (Khronos Data Format Specification, ASTC, "Weight
-- Unquantization").
use Rattle.std.specs.Prelude.{ℕ, ◌+◌, ◌*◌, ◌/◌, ◌^◌, if◌then◌else◌, nat_lt, bit_and, bit_or, List, [], ◌∷◌, slice_index}
use Rattle.std.specs.Int.{bit_at}
use Rattle.astc_model.specs.Levels.{digit_of, low_bits_of}
use Rattle.astc_model.specs.Unquantization.{replicated, with_bits, mixed}
use Rattle.astc_model.specs.declared.level.Digit.{Digit}
use Rattle.astc_model.specs.declared.level.Digit.TheVariants.{Bits, Trit, Quint}
use Rattle.astc_model.specs.declared.level.Level.{Level}
use Rattle.astc_model.specs.declared.level.Level.TheVariants.{Three, Five, Six, Ten, Twelve, Twenty, TwentyFour}

-- B of the standard's table: seven bits, the highest first, where b and c are bits 1 and 2 of the
-- integer
abbrev pub weight_bits : Level → (b c : ℕ) → List ℕ
weight_bits Twelve b c = b ∷ 0 ∷ 0 ∷ 0 ∷ b ∷ 0 ∷ b ∷ []
weight_bits Twenty b c = b ∷ 0 ∷ 0 ∷ 0 ∷ 0 ∷ b ∷ 0 ∷ []
weight_bits TwentyFour b c = c ∷ b ∷ 0 ∷ 0 ∷ 0 ∷ c ∷ b ∷ []
weight_bits _ b c = []

-- C of the standard's table, by which the digit is multiplied
abbrev pub weight_factor : Level → ℕ
weight_factor Six = 50
weight_factor Ten = 28
weight_factor Twelve = 23
weight_factor Twenty = 13
weight_factor TwentyFour = 11
weight_factor _ = 0

-- the value of an integer with a trit or quint, with the standard's A, B, D and T: from a list if
-- the integer has no low bits; else A repeats the lowest bit seven times
abbrev pub weight_of_digit : Level → ℕ → ℕ
weight_of_digit Three i = slice_index (0 ∷ 32 ∷ 63 ∷ []) i
weight_of_digit Five i = slice_index (0 ∷ 16 ∷ 32 ∷ 47 ∷ 63 ∷ []) i
weight_of_digit level i =
    let A = 127 * bit_at i 0 in
    let B = with_bits 0 (weight_bits level (bit_at i 1) (bit_at i 2)) in
    let D = i / 2 ^ low_bits_of level in
    let T = mixed A B (weight_factor level) D in
    bit_or (bit_and A 32) (T / 4)

-- the value, 0 to 63, of an integer: by bit replication at levels without digits, else from the
-- digit
abbrev pub weight_by : Digit → Level → ℕ → ℕ
weight_by Bits level i = replicated 6 (low_bits_of level) i
weight_by Trit level i = weight_of_digit level i
weight_by Quint level i = weight_of_digit level i

-- the last step: a value of 0 to 63 is stretched to 0 to 64 by adding 1 to values over 32
abbrev pub stretched : ℕ → ℕ
stretched value = if nat_lt 32 value then value + 1 else value

-- the unquantized value, 0 to 64, of the weight integer i of a level
unfoldable pub weight_value : Level → ℕ → ℕ
weight_value level i = stretched (weight_by (digit_of level) level i)
