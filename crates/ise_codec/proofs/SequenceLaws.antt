-- Laws of integer sequences: an encoded sequence is decoded to its integers, and decoded integers
-- are below the count of the level.
use Rattle.std.proofs.Common.{◌≡◌, ℕ, zero, suc, ◌+◌, ◌-◌, ◌*◌, ◌/◌, ◌%◌, ◌^◌, ◌<◌, ◌≤◌, List, [], ◌∷◌, ◌++◌, length, get_or, take, drop, refl, sym, ◌∙◌, ap, arith, inl, inr}
use Rattle.std.specs.List.{All}
use Rattle.std.proofs.lemmas.Nat.{pow_pos, pow-add, mul-add-lt, shr_high, mod_low, mod_below}
use Rattle.std.proofs.lemmas.Bool.{cases_lt}
use Rattle.std.proofs.lemmas.List.{take-append-le, length-append, length-drop, length-take-le, take-append-drop, get_or-drop}
use Rattle.std.proofs.lemmas.List.Elements.{All-append, All-nil, All-take}
use Rattle.std.proofs.Math.Seq.{take-append-add}
use Rattle.std.proofs.Math.Nat.{div-one, mod-eq_of_lt}
use Rattle.astc_model.specs.declared.level.Digit.{Digit}
use Rattle.astc_model.specs.declared.level.Digit.TheVariants.{Bits, Trit, Quint}
use Rattle.astc_model.specs.declared.level.Level.{Level}
use Rattle.astc_model.specs.Bits.{field_of}
use Rattle.astc_model.specs.Levels.{base_of, digit_of, low_bits_of, count_of, digit_bits, sequence_bits}
use Rattle.astc_model.specs.Sequences.{group_size, group_bits, group_count, group_values, values_of_groups, values_in, sequence, group_written, groups_written, values_written, written_sequence}
use Rattle.astc_model.proofs.BitLaws.{field_of-is}
use Rattle.ise_codec.proofs.GroupLaws.{group_values-low, length-group_values, group_values-lt, AllUnder, filled, group_values-written, group_written-lt, group_written-cut}

-- ---- the number of groups

group_count-more : (digit : Digit) (n : ℕ) → group_size digit ≤ n → 0 < n → group_count digit n
    ≡ suc (group_count digit (n - group_size digit))
group_count-more Bits n within some = omega arith
group_count-more Trit n within some = omega arith
group_count-more Quint n within some = omega arith

group_count-last : (digit : Digit) (n : ℕ) → n ≤ group_size digit → 0 < n → group_count digit n
    ≡ suc 0
group_count-last Bits n within some = omega arith
group_count-last Trit n within some = omega arith
group_count-last Quint n within some = omega arith

group_size-pos : (digit : Digit) → 0 < group_size digit
group_size-pos Bits = omega arith
group_size-pos Trit = omega arith
group_size-pos Quint = omega arith

-- the groups have room for n integers
group_count-holds : (digit : Digit) (n : ℕ) → n ≤ group_count digit n * group_size digit
group_count-holds Bits n = omega arith
group_count-holds Trit n = omega arith
group_count-holds Quint n = omega arith

-- the bits of n integers are those of one group and of the m integers after it
pub digit_bits-more : (digit : Digit) (b n m : ℕ) → n ≡ group_size digit + m
    → n * b + digit_bits digit n ≡ group_bits digit b + (m * b + digit_bits digit m)
digit_bits-more Bits b n m same = rw same (omega arith)
digit_bits-more Trit b n m same = rw same (omega arith)
digit_bits-more Quint b n m same = rw same (omega arith)

-- ---- decoding

length-values_of_groups : (digit : Digit) (b k z : ℕ) → length (values_of_groups digit b k z)
    ≡ k * group_size digit
unfolding values_of_groups
length-values_of_groups digit b zero z = omega arith
length-values_of_groups digit b (suc k) z =
    let rest : ℕ = z / 2 ^ group_bits digit b in
    omega (
      arith,
      length-append (group_values digit b z)
          (values_of_groups digit b k rest),
      length-group_values digit b z,
      length-values_of_groups digit b k rest,
    )

values_of_groups-lt : (digit : Digit) (b k z : ℕ) → All (λ v. v < base_of digit * 2 ^ b)
    (values_of_groups digit b k z)
unfolding values_of_groups
values_of_groups-lt digit b zero z = All-nil (λ v. v < base_of digit * 2 ^ b)
values_of_groups-lt digit b (suc k) z =
    let rest : ℕ = z / 2 ^ group_bits digit b in
    All-append (λ v. v < base_of digit * 2 ^ b) (group_values digit b z)
    (values_of_groups digit b k rest) (group_values-lt digit b z)
    (values_of_groups-lt digit b k rest)

pub length-values_in : (digit : Digit) (b n z : ℕ) → length (values_in digit b n z) ≡ n
unfolding values_in
length-values_in digit b n z =
    length-take-le n (values_of_groups digit b (group_count digit n) z)
    (omega (
      arith,
      length-values_of_groups digit b (group_count digit n) z,
      group_count-holds
          digit n,
    ))

pub values_in-lt : (digit : Digit) (b n z : ℕ) → All (λ v. v < base_of digit * 2 ^ b)
    (values_in digit b n z)
unfolding values_in
values_in-lt digit b n z =
    All-take (λ v. v < base_of digit * 2 ^ b) n (values_of_groups digit b (group_count digit n) z)
    (values_of_groups-lt digit b (group_count digit n) z)

-- the integers are those of the lowest group, followed by those in the bits above it
pub values_in-more : (digit : Digit) (b n m z : ℕ) → n ≡ group_size digit + m
    → values_in digit b n z ≡ group_values digit b z ++ values_in digit b m
    (z / 2 ^ group_bits digit b)
unfolding values_in values_of_groups
values_in-more digit b n m z same =
    let rest : ℕ = z / 2 ^ group_bits digit b in
    let size : ℕ = group_size digit in
    let positive : 0 < size = group_size-pos digit in
    let less : n - size ≡ m = omega arith in
    let count : group_count digit n ≡ suc (group_count digit m) =
    group_count-more digit n (omega arith) (omega arith) ∙ ap (λ x. suc (group_count digit x)) less
    in
    let front : n ≡ length (group_values digit b z) + m =
    omega (arith, length-group_values digit b z) in
    ap (λ k. take n (values_of_groups digit b k z)) count
    ∙ ap (λ x. take x (group_values digit b z ++ values_of_groups digit b
    (group_count digit m) rest)) front
    ∙ take-append-add (group_values digit b z) (values_of_groups digit b (group_count digit m) rest)
    m

-- the integers of at most one group are the first ones of this group
pub values_in-last : (digit : Digit) (b n z : ℕ) → n ≤ group_size digit → values_in digit b n z
    ≡ take n (group_values digit b z)
unfolding values_in values_of_groups
values_in-last digit b zero z within = refl
values_in-last digit b (suc n) z within =
    let rest : ℕ = z / 2 ^ group_bits digit b in
    let count : group_count digit (suc n) ≡ suc 0 = group_count-last digit (suc n) within
    (omega arith) in
    ap (λ k. take (suc n) (values_of_groups digit b k z)) count
    ∙ take-append-le (suc n) (group_values digit b z) []
    (omega (arith, length-group_values digit b z))

-- a sequence has n integers, each below the count of the level
pub length-sequence : (z : ℕ) (level : Level) (n : ℕ) → length (sequence z level n) ≡ n
length-sequence z level n = length-values_in (digit_of level) (low_bits_of level) n
    (z % 2 ^ sequence_bits level n)

pub sequence-lt : (z : ℕ) (level : Level) (n : ℕ) → All (λ v. v < count_of level)
    (sequence z level n)
sequence-lt z level n = values_in-lt (digit_of level) (low_bits_of level) n
    (z % 2 ^ sequence_bits level n)

-- two numbers with the same bits within the sequence's length give the same integers
pub sequence-same : (y z : ℕ) (level : Level) (n : ℕ) → y % 2 ^ sequence_bits level n
    ≡ z % 2 ^ sequence_bits level n → sequence y level n ≡ sequence z level n
sequence-same y z level n same = ap (values_in (digit_of level) (low_bits_of level) n) same

-- the sequence in a field of a block is the sequence in the block from the field's position on
pub sequence-field_of : (block at : ℕ) (level : Level) (n : ℕ)
    → sequence (field_of block at (sequence_bits level n)) level n
    ≡ sequence (block / 2 ^ at) level n
sequence-field_of block at level n =
    let bits : ℕ = sequence_bits level n in
    let field : field_of block at bits ≡ block / 2 ^ at % 2 ^ bits = field_of-is block at bits in
    let low : field_of block at bits % 2 ^ bits ≡ block / 2 ^ at % 2 ^ bits =
    ap (λ x. x % 2 ^ bits) field
    ∙ mod-eq_of_lt (mod_below (block / 2 ^ at) (2 ^ bits) (pow_pos bits))
    in
    sequence-same (field_of block at bits) (block / 2 ^ at) level n low

-- a sequence in the lowest bits of a number
pub sequence-lowest : (z : ℕ) (level : Level) (n : ℕ)
    → sequence (field_of z 0 (sequence_bits level n)) level n ≡ sequence z level n
sequence-lowest z level n = sequence-field_of z 0 level n ∙ ap (λ x. sequence x level n) (div-one z)

-- ---- encoding

get_or_past : (values : List ℕ) (i d : ℕ) → length values ≤ i → get_or values i d ≡ d
get_or_past [] i d past = refl
get_or_past (v ∷ vs) zero d past = absurd (omega arith)
get_or_past (v ∷ vs) (suc i) d past = get_or_past vs i d (omega arith)

some_values : (digit : Digit) (n k : ℕ) → suc k ≡ group_count digit n → 0 < n
some_values Bits n k count = omega arith
some_values Trit n k count = omega arith
some_values Quint n k count = omega arith

fewer_groups : (digit : Digit) (n m k : ℕ) → suc k ≡ group_count digit n → n ≡ group_size digit + m
    → 0 < n → k ≡ group_count digit m
fewer_groups Bits n m k count split some = omega arith
fewer_groups Trit n m k count split some = omega arith
fewer_groups Quint n m k count split some = omega arith

one_group : (digit : Digit) (b k : ℕ) (values : List ℕ) (m : ℕ) → k ≡ 0
    → group_written digit b values < 2 ^ (m * b + digit_bits digit m)
    → groups_written digit b k (drop (group_size digit) values) * 2 ^ group_bits digit
    b + group_written digit b values < 2 ^ (m * b + digit_bits digit m)
unfolding groups_written
one_group digit b zero values m none cut = omega arith
one_group digit b (suc k) values m none cut = absurd (omega arith)

pub AllUnder-drop : (m k : ℕ) (values : List ℕ) → AllUnder m values → AllUnder m (drop k values)
AllUnder-drop m k values under = λ i. rw (get_or-drop k values i 0) (under (k + i))

-- if all integers are below m, so is the integer at each index
pub AllUnder-from_all : (m : ℕ) (values : List ℕ) → 0 < m → All (λ v. v < m) values
    → AllUnder m values
AllUnder-from_all m values some all = λ i.
    elim (cases_lt i (length values)) [
      | inl inside ↦ all i 0 inside
      | inr past ↦ rw (get_or_past values i 0 past) some
    ]

groups_written-lt : (digit : Digit) (b k : ℕ) (values : List ℕ) → k
    ≡ group_count digit (length values) → AllUnder (base_of digit * 2 ^ b) values
    → groups_written digit b k values < 2 ^ (length values * b + digit_bits digit (length values))
unfolding groups_written
groups_written-lt digit b zero values count under =
    pow_pos (length values * b + digit_bits digit (length values))
groups_written-lt digit b (suc k) values count under =
    let n : ℕ = length values in
    let size : ℕ = group_size digit in
    let positive : 0 < size = group_size-pos digit in
    let some : 0 < n = some_values digit n k count in
    elim (cases_lt n size) [
      | inl short ↦
          let last : suc k ≡ suc 0 = count ∙ group_count-last digit n (omega arith) some in
          let none : k ≡ 0 = omega arith in
          let cut : group_written digit b values < 2 ^ (n * b + digit_bits digit n) =
          group_written-cut digit b values (omega arith) under in
          one_group digit b k values n none cut
      | inr long ↦
          let m : ℕ = length (drop size values) in
          let split : n ≡ size + m = omega (arith, length-drop size values) in
          let fewer : k ≡ group_count digit m = fewer_groups digit n m k count split some in
          let rest : groups_written digit b k (drop size values) < 2 ^
          (m * b + digit_bits digit m) =
          groups_written-lt digit b k (drop size values) fewer
          (AllUnder-drop (base_of digit * 2 ^ b) size values under)
          in
          rw (
            digit_bits-more digit b n m split,
            pow-add 2 (group_bits digit b)
                (m * b + digit_bits digit m),
          )
          (mul-add-lt (groups_written digit b k (drop size values)) (2 ^ group_bits digit b)
          (group_written digit b values) (2 ^ (m * b + digit_bits digit m)) rest
          (group_written-lt digit b values))
    ]

-- a group of enough integers has no missing one
filled-more : (digit : Digit) (values : List ℕ) → group_size digit ≤ length values
    → filled digit values ≡ take (group_size digit) values
filled-more Bits (a ∷ vs) long = refl
filled-more Bits [] long = absurd (omega arith)
filled-more Trit (a ∷ b ∷ c ∷ d ∷ e ∷ vs) long = refl
filled-more Trit [] long = absurd (omega arith)
filled-more Trit (a ∷ []) long = absurd (omega arith)
filled-more Trit (a ∷ b ∷ []) long = absurd (omega arith)
filled-more Trit (a ∷ b ∷ c ∷ []) long = absurd (omega arith)
filled-more Trit (a ∷ b ∷ c ∷ d ∷ []) long = absurd (omega arith)
filled-more Quint (a ∷ b ∷ c ∷ vs) long = refl
filled-more Quint [] long = absurd (omega arith)
filled-more Quint (a ∷ []) long = absurd (omega arith)
filled-more Quint (a ∷ b ∷ []) long = absurd (omega arith)

-- an incomplete group decodes to its integers and zeros
filled-last : (digit : Digit) (values : List ℕ) → length values ≤ group_size digit
    → take (length values) (filled digit values) ≡ values
filled-last Bits [] short = refl
filled-last Bits (a ∷ []) short = refl
filled-last Bits (a ∷ b ∷ vs) short = absurd (omega arith)
filled-last Trit [] short = refl
filled-last Trit (a ∷ []) short = refl
filled-last Trit (a ∷ b ∷ []) short = refl
filled-last Trit (a ∷ b ∷ c ∷ []) short = refl
filled-last Trit (a ∷ b ∷ c ∷ d ∷ []) short = refl
filled-last Trit (a ∷ b ∷ c ∷ d ∷ e ∷ []) short = refl
filled-last Trit (a ∷ b ∷ c ∷ d ∷ e ∷ f ∷ vs) short = absurd (omega arith)
filled-last Quint [] short = refl
filled-last Quint (a ∷ []) short = refl
filled-last Quint (a ∷ b ∷ []) short = refl
filled-last Quint (a ∷ b ∷ c ∷ []) short = refl
filled-last Quint (a ∷ b ∷ c ∷ d ∷ vs) short = absurd (omega arith)

length-filled : (digit : Digit) (values : List ℕ) → length (filled digit values) ≡ group_size digit
length-filled Bits values = refl
length-filled Trit values = refl
length-filled Quint values = refl

-- a number whose lowest group is encoded from integers decodes to these first
group_values-lowest : (digit : Digit) (b high : ℕ) (values : List ℕ)
    → AllUnder (base_of digit * 2 ^ b) values
    → group_values digit b (high * 2 ^ group_bits digit b + group_written digit b values)
    ≡ filled digit values
group_values-lowest digit b high values under =
    let width : ℕ = group_bits digit b in
    let z : ℕ = high * 2 ^ width + group_written digit b values in
    let low : z % 2 ^ width ≡ group_written digit b values =
    mod_low high width (group_written digit b values) (group_written-lt digit b values) in
    sym (group_values-low digit b width z (omega arith)) ∙ ap (group_values digit b) low
    ∙ group_values-written digit b values under

no_values : (digit : Digit) (values : List ℕ) → zero ≡ group_count digit (length values)
    → take (length values) [] ≡ values
no_values digit [] count = refl
no_values Bits (v ∷ vs) count = absurd (omega arith)
no_values Trit (v ∷ vs) count = absurd (omega arith)
no_values Quint (v ∷ vs) count = absurd (omega arith)

groups_written-back : (digit : Digit) (b k : ℕ) (values : List ℕ) → k
    ≡ group_count digit (length values) → AllUnder (base_of digit * 2 ^ b) values
    → take (length values) (values_of_groups digit b k (groups_written digit b k values)) ≡ values
unfolding groups_written values_of_groups
groups_written-back digit b zero values count under = no_values digit values count
groups_written-back digit b (suc k) values count under =
    let n : ℕ = length values in
    let size : ℕ = group_size digit in
    let width : ℕ = group_bits digit b in
    let some : 0 < n = some_values digit n k count in
    let high : ℕ = groups_written digit b k (drop size values) in
    let z : ℕ = high * 2 ^ width + group_written digit b values in
    let first : group_values digit b z ≡ filled digit values =
    group_values-lowest digit b high values under in
    let above : z / 2 ^ width ≡ high = shr_high high width (group_written digit b values)
    (group_written-lt digit b values) in
    let both : group_values digit b z ++ values_of_groups digit b k (z / 2 ^ width)
    ≡ filled digit values ++ values_of_groups digit b k high =
    ap (λ xs. xs ++ values_of_groups digit b k (z / 2 ^ width)) first
    ∙ ap (λ y. filled digit values ++ values_of_groups digit b k y) above
    in
    ap (take n) both
    ∙ elim (cases_lt n size) [
      | inl short ↦
          take-append-le n (filled digit values) (values_of_groups digit b k high)
          (omega (arith, length-filled digit values)) ∙ filled-last digit values (omega arith)
      | inr long ↦
          let m : ℕ = length (drop size values) in
          let split : n ≡ size + m = omega (arith, length-drop size values) in
          let front : n ≡ length (filled digit values) + m =
          omega (arith, length-filled digit values) in
          let fewer : k ≡ group_count digit m = fewer_groups digit n m k count split some in
          let rest : take m (values_of_groups digit b k high) ≡ drop size values =
          groups_written-back digit b k (drop size values) fewer
          (AllUnder-drop (base_of digit * 2 ^ b) size values under)
          in
          ap (λ x. take x (filled digit values ++ values_of_groups digit b k high)) front
          ∙ take-append-add (filled digit values) (values_of_groups digit b k high) m
          ∙ ap (λ xs. filled digit values ++ xs) rest
          ∙ ap (λ xs. xs ++ drop size values) (filled-more digit values long)
          ∙ take-append-drop size values
    ]

pub values_written-lt : (digit : Digit) (b : ℕ) (values : List ℕ)
    → AllUnder (base_of digit * 2 ^ b) values → values_written digit b values < 2 ^
    (length values * b + digit_bits digit (length values))
unfolding values_written
values_written-lt digit b values under =
    groups_written-lt digit b (group_count digit (length values)) values refl under

pub values_in-written : (digit : Digit) (b : ℕ) (values : List ℕ)
    → AllUnder (base_of digit * 2 ^ b) values → values_in digit b (length values)
    (values_written digit b values) ≡ values
unfolding values_in values_written
values_in-written digit b values under =
    groups_written-back digit b (group_count digit (length values)) values refl under

-- the encoding is the first group, with the encoding of the remaining integers above it
pub values_written-more : (digit : Digit) (b : ℕ) (values : List ℕ)
    → group_size digit ≤ length values → values_written digit b values
    ≡ values_written digit b (drop (group_size digit) values) * 2 ^ group_bits digit
    b + group_written digit b values
unfolding values_written groups_written
values_written-more digit b values long =
    let n : ℕ = length values in
    let size : ℕ = group_size digit in
    let m : ℕ = length (drop size values) in
    let positive : 0 < size = group_size-pos digit in
    let less : n - size ≡ m = omega (arith, length-drop size values) in
    let count : group_count digit n ≡ suc (group_count digit m) =
    group_count-more digit n long (omega arith) ∙ ap (λ x. suc (group_count digit x)) less
    in
    ap (λ k. groups_written digit b k values) count

no_bits : (digit : Digit) (b x : ℕ) → x < 2 ^ (0 * b + digit_bits digit 0) → x ≡ 0
no_bits Bits b x lt = let none : 0 * b + 0 ≡ 0 = omega arith in omega (arith, rw none at lt)
no_bits Trit b x lt = let none : 0 * b + 0 ≡ 0 = omega arith in omega (arith, rw none at lt)
no_bits Quint b x lt = let none : 0 * b + 0 ≡ 0 = omega arith in omega (arith, rw none at lt)

written_none : (digit : Digit) (b : ℕ) → 0 ≡ group_written digit b []
    → groups_written digit b (group_count digit 0) [] ≡ group_written digit b []
unfolding groups_written
written_none Bits b none = none
written_none Trit b none = none
written_none Quint b none = none

-- the encoding of at most one group of integers is that group
pub values_written-last : (digit : Digit) (b : ℕ) (values : List ℕ)
    → length values ≤ group_size digit → AllUnder (base_of digit * 2 ^ b) values
    → values_written digit b values ≡ group_written digit b values
unfolding values_written groups_written
values_written-last digit b [] short under =
    written_none digit b (sym
    (no_bits digit b (group_written digit b []) (group_written-cut digit b [] short under)))
values_written-last digit b (v ∷ vs) short under =
    ap (λ k. groups_written digit b k (v ∷ vs)) (group_count-last digit (length (v ∷ vs)) short
    (omega arith)) ∙ omega arith

digit_lt_pos : (base b : ℕ) → 0 < base → 0 < base * 2 ^ b
digit_lt_pos base b some = omega (arith, mul-add-lt 0 (2 ^ b) 0 base some (pow_pos b))

base_of-pos : (digit : Digit) → 0 < base_of digit
base_of-pos Bits = omega arith
base_of-pos Trit = omega arith
base_of-pos Quint = omega arith

count_of-pos : (level : Level) → 0 < count_of level
count_of-pos level = digit_lt_pos (base_of (digit_of level)) (low_bits_of level)
    (base_of-pos (digit_of level))

-- an encoded sequence is below 2 to its length in bits
pub written_sequence-lt : (level : Level) (values : List ℕ) → All (λ v. v < count_of level) values
    → written_sequence level values < 2 ^ sequence_bits level (length values)
written_sequence-lt level values all =
    values_written-lt (digit_of level) (low_bits_of level) values
    (AllUnder-from_all (count_of level) values (count_of-pos level) all)

-- an encoded sequence is decoded to its integers
pub sequence-written : (level : Level) (values : List ℕ) → All (λ v. v < count_of level) values
    → sequence (written_sequence level values) level (length values) ≡ values
sequence-written level values all =
    ap (values_in (digit_of level) (low_bits_of level) (length values))
    (mod-eq_of_lt (written_sequence-lt level values all))
    ∙ values_in-written (digit_of level) (low_bits_of level) values
    (AllUnder-from_all (count_of level) values (count_of-pos level) all)

-- a block that has an encoded sequence in a field is decoded to the integers there
pub sequence-written_field : (block at : ℕ) (level : Level) (values : List ℕ)
    → All (λ v. v < count_of level) values → field_of block at (sequence_bits level (length values))
    ≡ written_sequence level values → sequence (block / 2 ^ at) level (length values) ≡ values
sequence-written_field block at level values all field =
    sym (sequence-field_of block at level (length values))
    ∙ ap (λ z. sequence z level (length values)) field ∙ sequence-written level values all
