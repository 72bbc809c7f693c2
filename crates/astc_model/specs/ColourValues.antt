-- The unquantized colour values at each level from 6 up (Khronos Data Format Specification, ASTC,
-- "Endpoint Unquantization").
use Rattle.std.specs.Prelude.{ℕ, ◌*◌, ◌/◌, ◌^◌, bit_and, bit_or, List, [], ◌∷◌}
use Rattle.std.specs.Int.{bit_at}
use Rattle.astc_model.specs.Levels.{digit_of, low_bits_of}
use Rattle.astc_model.specs.Unquantization.{replicated, with_bits, mixed}
use Rattle.astc_model.specs.declared.level.Digit.{Digit}
use Rattle.astc_model.specs.declared.level.Digit.TheVariants.{Bits, Trit, Quint}
use Rattle.astc_model.specs.declared.level.Level.{Level}
use Rattle.astc_model.specs.declared.level.Level.TheVariants.{Ten, Twelve, Twenty, TwentyFour, Forty, FortyEight, Eighty, NinetySix, OneSixty, OneNinetyTwo, Six}

-- B of the standard's table: nine bits, the highest first, where b to f are bits 1 to 5 of the
-- integer
abbrev pub colour_bits : Level → (b c d e f : ℕ) → List ℕ
colour_bits Twelve b c d e f = b ∷ 0 ∷ 0 ∷ 0 ∷ b ∷ 0 ∷ b ∷ b ∷ 0 ∷ []
colour_bits Twenty b c d e f = b ∷ 0 ∷ 0 ∷ 0 ∷ 0 ∷ b ∷ b ∷ 0 ∷ 0 ∷ []
colour_bits TwentyFour b c d e f = c ∷ b ∷ 0 ∷ 0 ∷ 0 ∷ c ∷ b ∷ c ∷ b ∷ []
colour_bits Forty b c d e f = c ∷ b ∷ 0 ∷ 0 ∷ 0 ∷ 0 ∷ c ∷ b ∷ c ∷ []
colour_bits FortyEight b c d e f = d ∷ c ∷ b ∷ 0 ∷ 0 ∷ 0 ∷ d ∷ c ∷ b ∷ []
colour_bits Eighty b c d e f = d ∷ c ∷ b ∷ 0 ∷ 0 ∷ 0 ∷ 0 ∷ d ∷ c ∷ []
colour_bits NinetySix b c d e f = e ∷ d ∷ c ∷ b ∷ 0 ∷ 0 ∷ 0 ∷ e ∷ d ∷ []
colour_bits OneSixty b c d e f = e ∷ d ∷ c ∷ b ∷ 0 ∷ 0 ∷ 0 ∷ 0 ∷ e ∷ []
colour_bits OneNinetyTwo b c d e f = f ∷ e ∷ d ∷ c ∷ b ∷ 0 ∷ 0 ∷ 0 ∷ f ∷ []
colour_bits _ b c d e f = []

-- C of the standard's table, by which the digit is multiplied
abbrev pub colour_factor : Level → ℕ
colour_factor Six = 204
colour_factor Ten = 113
colour_factor Twelve = 93
colour_factor Twenty = 54
colour_factor TwentyFour = 44
colour_factor Forty = 26
colour_factor FortyEight = 22
colour_factor Eighty = 13
colour_factor NinetySix = 11
colour_factor OneSixty = 6
colour_factor OneNinetyTwo = 5
colour_factor _ = 0

-- the value of an integer with a trit or quint, with the standard's A, B, D and T; A repeats the
-- lowest bit of the integer nine times
abbrev pub colour_of_digit : Level → ℕ → ℕ
colour_of_digit level i =
    let A = 511 * bit_at i 0 in
    let B = with_bits 0 (colour_bits level (bit_at i 1) (bit_at i 2) (bit_at i 3) (bit_at i 4)
    (bit_at i 5)) in
    let D = i / 2 ^ low_bits_of level in
    let T = mixed A B (colour_factor level) D in
    bit_or (bit_and A 128) (T / 4)

-- the value, 0 to 255, of an integer: by bit replication at levels without digits, else from the
-- digit
abbrev pub colour_by : Digit → Level → ℕ → ℕ
colour_by Bits level i = replicated 8 (low_bits_of level) i
colour_by Trit level i = colour_of_digit level i
colour_by Quint level i = colour_of_digit level i

-- the unquantized value, 0 to 255, of the integer i of a level
unfoldable pub colour_value : Level → ℕ → ℕ
colour_value level i = colour_by (digit_of level) level i
