-- Integer sequence encoding: integers that share the bits of their trits or quints in groups
-- (Khronos Data Format Specification, ASTC, "Integer Sequence Encoding").
use Rattle.std.specs.Prelude.{ℕ, ◌+◌, ◌-◌, ◌*◌, ◌/◌, ◌%◌, ◌^◌, Bool, true, false, ◌&&◌, ◌==◌, if◌then◌else◌, List, [], ◌∷◌, ◌++◌, take, drop, length, slice_index}
use Rattle.std.proofs.Common.{zero, suc}
use Rattle.std.specs.Int.{bit_at}
use Rattle.astc_model.specs.declared.level.Digit.{Digit}
use Rattle.astc_model.specs.declared.level.Digit.TheVariants.{Bits, Trit, Quint}
use Rattle.astc_model.specs.declared.level.Level.{Level}
use Rattle.astc_model.specs.Bits.{field_of}
use Rattle.astc_model.specs.Levels.{digit_of, low_bits_of, sequence_bits}
use Rattle.astc_model.specs.Packing.{packed}

-- bits `high` to `low` of t, like T[6:5] in the standard
abbrev pub slice : ℕ → ℕ → ℕ → ℕ
slice t high low = t / 2 ^ low % 2 ^ (high + 1 - low)

-- the first three trits of a group, from the five bits C of the standard
unfoldable pub low_trits : ℕ → List ℕ
low_trits c =
    if slice c 1 0 == 3 then (2 * bit_at c 3 + bit_at c 2 * (1 - bit_at c 3)) ∷ bit_at c 4 ∷ 2 ∷ []
    else (if slice c 3 2 == 3 then slice c 1 0 ∷ 2 ∷ 2 ∷ [] else
    (2 * bit_at c 1 + bit_at c 0 * (1 - bit_at c 1)) ∷ slice c 3 2 ∷ bit_at c 4 ∷ [])

-- the five trits that the eight bits T encode, the first integer's trit first
unfoldable pub trits : ℕ → List ℕ
trits t =
    if slice t 4 2 == 7 then low_trits (4 * slice t 7 5 + slice t 1 0) ++ 2 ∷ 2 ∷ []
    else low_trits (slice t 4 0) ++ (if slice t 6 5 == 3 then bit_at t 7 ∷ 2 ∷ [] else slice t 6 5
    ∷ bit_at t 7 ∷ [])

-- the first two quints of a group, from the five bits C of the standard
unfoldable pub low_quints : ℕ → List ℕ
low_quints c = if slice c 2 0 == 5 then slice c 4 3 ∷ 4 ∷ [] else slice c 2 0 ∷ slice c 4 3 ∷ []

-- the three quints that the seven bits Q encode, the first integer's quint first
unfoldable pub quints : ℕ → List ℕ
quints q =
    if slice q 2 1 == 3 then
    (if slice q 6 5 == 0 then 4 ∷ 4
    ∷ (4 * bit_at q 0 + 2 * (bit_at q 4 * (1 - bit_at q 0)) + bit_at q 3 * (1 - bit_at q 0))
    ∷ []
    else low_quints (8 * slice q 4 3 + 4 * (1 - bit_at q 6) + 2 * (1 - bit_at q 5) + bit_at q 0)
    ++ 4 ∷ [])
    else low_quints (slice q 4 0) ++ slice q 6 5 ∷ []

-- the bits T of the group z, whose integers have b low bits each; from bit 0 on, the bits of the
-- group are m0 T0 T1 m1 T2 T3 m2 T4 m3 T5 T6 m4 T7
abbrev pub trit_bits : ℕ → ℕ → ℕ
trit_bits b z =
    field_of z b 2 + 4 * field_of z (2 * b + 2) 2 + 16 * field_of z (3 * b + 4) 1 + 32 * field_of z
    (4 * b + 5) 2 + 128 * field_of z (5 * b + 7) 1

-- the bits Q of the group z, whose integers have b low bits each; from bit 0 on, the bits of the
-- group are m0 Q0 Q1 Q2 m1 Q3 Q4 m2 Q5 Q6
abbrev pub quint_bits : ℕ → ℕ → ℕ
quint_bits b z = field_of z b 3 + 8 * field_of z (2 * b + 3) 2 + 32 * field_of z (3 * b + 5) 2

-- integer i of a group, from the digits of the group and the b low bits of the integer
abbrev pub value_of : ℕ → List ℕ → ℕ → ℕ → ℕ
value_of b digits i low = slice_index digits i * 2 ^ b + low

-- the five integers of the group z with trits
unfoldable pub trit_group : ℕ → ℕ → List ℕ
trit_group b z =
    value_of b (trits (trit_bits b z)) 0 (field_of z 0 b)
    ∷ value_of b (trits (trit_bits b z)) 1 (field_of z (b + 2) b)
    ∷ value_of b (trits (trit_bits b z)) 2 (field_of z (2 * b + 4) b)
    ∷ value_of b (trits (trit_bits b z)) 3 (field_of z (3 * b + 5) b)
    ∷ value_of b (trits (trit_bits b z)) 4 (field_of z (4 * b + 7) b)
    ∷ []

-- the three integers of the group z with quints
unfoldable pub quint_group : ℕ → ℕ → List ℕ
quint_group b z =
    value_of b (quints (quint_bits b z)) 0 (field_of z 0 b)
    ∷ value_of b (quints (quint_bits b z)) 1 (field_of z (b + 3) b)
    ∷ value_of b (quints (quint_bits b z)) 2 (field_of z (2 * b + 5) b)
    ∷ []

-- the number of integers of a group; an integer without a digit is a group by itself
abbrev pub group_size : Digit → ℕ
group_size Bits = 1
group_size Trit = 5
group_size Quint = 3

-- the number of bits of a complete group
abbrev pub group_bits : Digit → ℕ → ℕ
group_bits Bits b = b
group_bits Trit b = 5 * b + 8
group_bits Quint b = 3 * b + 7

-- the number of groups that hold n integers
abbrev pub group_count : Digit → ℕ → ℕ
group_count Bits n = n
group_count Trit n = (n + 4) / 5
group_count Quint n = (n + 2) / 3

-- the integers of the lowest group of z, with b low bits each
abbrev pub group_values : Digit → ℕ → ℕ → List ℕ
group_values Bits b z = field_of z 0 b ∷ []
group_values Trit b z = trit_group b z
group_values Quint b z = quint_group b z

-- the integers of the first k groups of z
unfoldable pub values_of_groups : Digit → ℕ → ℕ → ℕ → List ℕ
values_of_groups digit b zero z = []
values_of_groups digit b (suc k) z = group_values digit b z ++ values_of_groups digit b k
    (z / 2 ^ group_bits digit b)

-- the first n integers in z, with b low bits each
unfoldable pub values_in : Digit → ℕ → ℕ → ℕ → List ℕ
values_in digit b n z = take n (values_of_groups digit b (group_count digit n) z)

-- the sequence of n integers in the number z; bits after the length of the sequence count as 0
abbrev pub sequence : ℕ → Level → ℕ → List ℕ
sequence z level n = values_in (digit_of level) (low_bits_of level) n
    (z % 2 ^ sequence_bits level n)

-- ---- encoding

-- the least of the n numbers from k on for which p is true; k + n if p is true for none
abbrev pub least_from : (ℕ → Bool) → ℕ → ℕ → ℕ
least_from p zero k = k
least_from p (suc n) k = elim (p k) [ true ↦ k | false ↦ least_from p n (suc k) ]

-- whether two lists of digits are equal
abbrev pub same_digits : List ℕ → List ℕ → Bool
same_digits [] [] = true
same_digits [] (y ∷ ys) = false
same_digits (x ∷ xs) [] = false
same_digits (x ∷ xs) (y ∷ ys) = (x == y) && same_digits xs ys

-- the least T that encodes these five trits
unfoldable pub least_trits : List ℕ → ℕ
least_trits digits = least_from (λ t. same_digits (trits t) digits) 256 0

-- the least Q that encodes these three quints
unfoldable pub least_quints : List ℕ → ℕ
least_quints digits = least_from (λ q. same_digits (quints q) digits) 128 0

-- the digit, and the b low bits, of integer i; 0 for a missing integer
abbrev pub digit_at : ℕ → List ℕ → ℕ → ℕ
digit_at b values i = slice_index values i / 2 ^ b

abbrev pub low_at : ℕ → List ℕ → ℕ → ℕ
low_at b values i = slice_index values i % 2 ^ b

-- the group of five integers whose trits are encoded as t
unfoldable pub trits_packed : ℕ → ℕ → List ℕ → ℕ
trits_packed b t values =
    packed (b ∷ 2 ∷ b ∷ 2 ∷ b ∷ 1 ∷ b ∷ 2 ∷ b ∷ 1 ∷ [])
    (low_at b values 0 ∷ slice t 1 0 ∷ low_at b values 1 ∷ slice t 3 2 ∷ low_at b values 2
    ∷ bit_at t 4 ∷ low_at b values 3 ∷ slice t 6 5 ∷ low_at b values 4 ∷ bit_at t 7 ∷ [])

-- the group of three integers whose quints are encoded as q
unfoldable pub quints_packed : ℕ → ℕ → List ℕ → ℕ
quints_packed b q values =
    packed (b ∷ 3 ∷ b ∷ 2 ∷ b ∷ 2 ∷ []) (low_at b values 0 ∷ slice q 2 0 ∷ low_at b values 1
    ∷ slice q 4 3 ∷ low_at b values 2 ∷ slice q 6 5 ∷ [])

-- the first group of these integers, with the least T or Q
unfoldable pub group_written : Digit → ℕ → List ℕ → ℕ
group_written Bits b values = low_at b values 0
group_written Trit b values =
    trits_packed b (least_trits (digit_at b values 0 ∷ digit_at b values 1 ∷ digit_at b values 2
    ∷ digit_at b values 3 ∷ digit_at b values 4 ∷ [])) values
group_written Quint b values =
    quints_packed b (least_quints (digit_at b values 0 ∷ digit_at b values 1 ∷ digit_at b values 2
    ∷ [])) values

-- the first k groups of these integers
unfoldable pub groups_written : Digit → ℕ → ℕ → List ℕ → ℕ
groups_written digit b zero values = 0
groups_written digit b (suc k) values =
    groups_written digit b k (drop (group_size digit) values) * 2 ^ group_bits digit
    b + group_written digit b values

-- the groups of all these integers, with b low bits each
unfoldable pub values_written : Digit → ℕ → List ℕ → ℕ
values_written digit b values = groups_written digit b (group_count digit (length values)) values

-- the encoding of a sequence of these integers
abbrev pub written_sequence : Level → List ℕ → ℕ
written_sequence level values = values_written (digit_of level) (low_bits_of level) values
