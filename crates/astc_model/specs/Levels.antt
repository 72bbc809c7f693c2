-- The quantization levels of integer sequences (Khronos Data Format Specification, ASTC, "Integer
-- Sequence Encoding").
use Rattle.std.specs.Prelude.{ℕ, ◌+◌, ◌*◌, ◌/◌, ◌^◌, Bool, ◌==◌, List, [], ◌∷◌}
use Rattle.std.specs.List.{list_any}
use Rattle.astc_model.specs.declared.level.Digit.{Digit}
use Rattle.astc_model.specs.declared.level.Digit.TheVariants.{Bits, Trit, Quint}
use Rattle.astc_model.specs.declared.level.Level.{Level}
use Rattle.astc_model.specs.declared.level.Level.TheVariants.{Two, Three, Four, Five, Six, Eight, Ten, Twelve, Sixteen, Twenty, TwentyFour, ThirtyTwo, Forty, FortyEight, SixtyFour, Eighty, NinetySix, OneTwentyEight, OneSixty, OneNinetyTwo, TwoFiftySix}

-- whether an integer of the level has a trit, a quint or nothing above its low bits
abbrev pub digit_of : Level → Digit
digit_of Two = Bits
digit_of Three = Trit
digit_of Four = Bits
digit_of Five = Quint
digit_of Six = Trit
digit_of Eight = Bits
digit_of Ten = Quint
digit_of Twelve = Trit
digit_of Sixteen = Bits
digit_of Twenty = Quint
digit_of TwentyFour = Trit
digit_of ThirtyTwo = Bits
digit_of Forty = Quint
digit_of FortyEight = Trit
digit_of SixtyFour = Bits
digit_of Eighty = Quint
digit_of NinetySix = Trit
digit_of OneTwentyEight = Bits
digit_of OneSixty = Quint
digit_of OneNinetyTwo = Trit
digit_of TwoFiftySix = Bits

-- the number of low bits of an integer
abbrev pub low_bits_of : Level → ℕ
low_bits_of Two = 1
low_bits_of Three = 0
low_bits_of Four = 2
low_bits_of Five = 0
low_bits_of Six = 1
low_bits_of Eight = 3
low_bits_of Ten = 1
low_bits_of Twelve = 2
low_bits_of Sixteen = 4
low_bits_of Twenty = 2
low_bits_of TwentyFour = 3
low_bits_of ThirtyTwo = 5
low_bits_of Forty = 3
low_bits_of FortyEight = 4
low_bits_of SixtyFour = 6
low_bits_of Eighty = 4
low_bits_of NinetySix = 5
low_bits_of OneTwentyEight = 7
low_bits_of OneSixty = 5
low_bits_of OneNinetyTwo = 6
low_bits_of TwoFiftySix = 8

-- the number of values of a digit
abbrev pub base_of : Digit → ℕ
base_of Bits = 1
base_of Trit = 3
base_of Quint = 5

-- the number of values of an integer of the level
abbrev pub count_of : Level → ℕ
count_of level = base_of (digit_of level) * 2 ^ low_bits_of level

-- the number of bits of n digits: five trits take 8 bits, three quints take 7, rounded up
abbrev pub digit_bits : Digit → ℕ → ℕ
digit_bits Bits n = 0
digit_bits Trit n = (8 * n + 4) / 5
digit_bits Quint n = (7 * n + 2) / 3

-- the length in bits of a sequence of n integers
abbrev pub sequence_bits : Level → ℕ → ℕ
sequence_bits level n = n * low_bits_of level + digit_bits (digit_of level) n

-- the numbers of values of all levels, in ascending order
abbrev pub level_counts : List ℕ
level_counts = 2 ∷ 3 ∷ 4 ∷ 5 ∷ 6 ∷ 8 ∷ 10 ∷ 12 ∷ 16 ∷ 20 ∷ 24 ∷ 32 ∷ 40 ∷ 48 ∷ 64 ∷ 80 ∷ 96 ∷ 128
    ∷ 160 ∷ 192 ∷ 256 ∷ []

-- whether a level has this number of values
abbrev pub is_level_count : ℕ → Bool
is_level_count count = list_any (λ n. n == count) level_counts
