-- The steps of the code that encode the groups of a sequence.
use Rattle.std.proofs.Common.{◌≡◌, ℕ, zero, suc, ◌+◌, ◌-◌, ◌*◌, ◌/◌, ◌%◌, ◌^◌, ◌<◌, ◌≤◌, List, [], ◌∷◌, length, get_or, take, drop, refl, sym, ◌∙◌, ap, arith, zero-add}
use Rattle.std.specs.Int.{bit_at}
use Rattle.std.specs.List.{All}
use Rattle.std.proofs.lemmas.Nat.{pow_pos, mul-le, shl_whole, div_below, mul-add-lt}
use Rattle.std.proofs.lemmas.List.{length-drop}
use Rattle.std.proofs.lemmas.List.Elements.{All-drop}
use Rattle.std.proofs.Math.Seq.{take-length, drop-cons}
use Rattle.std.proofs.Math.Nat.{pow-le-pow_right, mod-eq_of_lt}
use Rattle.astc_model.specs.declared.level.Digit.{Digit}
use Rattle.astc_model.specs.declared.level.Digit.TheVariants.{Bits, Trit, Quint}
use Rattle.astc_model.specs.declared.level.Level.{Level}
use Rattle.astc_model.specs.Levels.{base_of, count_of, digit_of, low_bits_of, digit_bits, sequence_bits}
use Rattle.astc_model.specs.Packing.{packed}
use Rattle.astc_model.specs.Sequences.{slice, group_size, group_bits, low_at, trits_packed, quints_packed, group_written, groups_written, values_written, sequence, written_sequence}
use Rattle.ise_codec.proofs.GroupLaws.{AllUnder}
use Rattle.ise_codec.proofs.SequenceLaws.{digit_bits-more, AllUnder-from_all, values_written-lt, values_written-more, values_written-last, written_sequence-lt, sequence-written}

-- ---- the remaining integers

rest_is : (k : ℕ) (values : List ℕ) → take (length values - k) (drop k values) ≡ drop k values
rest_is k values =
    ap (λ n. take n (drop k values)) (sym (length-drop k values)) ∙ take-length (drop k values)

pub rest_under : (m k : ℕ) (values : List ℕ) → All (λ v. v < m) values
    → All (λ v. v < m) (take (length values - k) (drop k values))
rest_under m k values all = rw (rest_is k values) (All-drop (λ v. v < m) k values all)

pub rest_inside : (digit : Digit) (b : ℕ) (values : List ℕ) → group_size digit ≤ length values
    → length values * b + digit_bits digit (length values) ≤ 128
    → length (take (length values - group_size digit) (drop (group_size digit) values)) * b
    + digit_bits digit (length
    (take (length values - group_size digit) (drop (group_size digit) values))) ≤ 128
rest_inside digit b values long inside =
    let m : ℕ = length (drop (group_size digit) values) in
    let split : length values ≡ group_size digit + m =
    omega (arith, length-drop (group_size digit) values) in
    rw (rest_is (group_size digit) values)
    (omega (arith, digit_bits-more digit b (length values) m split))

base_of-pos : (digit : Digit) → 0 < base_of digit
base_of-pos Bits = omega arith
base_of-pos Trit = omega arith
base_of-pos Quint = omega arith

pub by_index : (digit : Digit) (b : ℕ) (values : List ℕ)
    → All (λ v. v < base_of digit * 2 ^ b) values → AllUnder (base_of digit * 2 ^ b) values
by_index digit b values all =
    AllUnder-from_all (base_of digit * 2 ^ b) values
    (omega (arith, mul-add-lt 0 (2 ^ b) 0 (base_of digit) (base_of-pos digit) (pow_pos b))) all

-- ---- one group below the encoding of the others

written_above : (digit : Digit) (b : ℕ) (values : List ℕ) (above : ℕ)
    → group_size digit ≤ length values → All (λ v. v < base_of digit * 2 ^ b) values
    → length values * b + digit_bits digit (length values) ≤ 128 → above
    ≡ values_written digit b
    (take (length values - group_size digit) (drop (group_size digit) values))
    → above * 2 ^ group_bits digit b % 2 ^ 128
    ≡ values_written digit b (drop (group_size digit) values) * 2 ^ group_bits digit b
written_above digit b values above long all inside rest =
    let tail : List ℕ = drop (group_size digit) values in
    let m : ℕ = length tail in
    let split : length values ≡ group_size digit + m =
    omega (arith, length-drop (group_size digit) values) in
    let same : above ≡ values_written digit b tail = rest
    ∙ ap (values_written digit b) (rest_is (group_size digit) values) in
    let small : values_written digit b tail < 2 ^ (m * b + digit_bits digit m) =
    values_written-lt digit b tail
    (by_index digit b tail (All-drop (λ v. v < base_of digit * 2 ^ b)
    (group_size digit) values all))
    in
    rw same
    (shl_whole (values_written digit b tail) (m * b + digit_bits digit m)
    (group_bits digit b) 128 small
    (omega (arith, digit_bits-more digit b (length values) m split)))

pub written_step : (digit : Digit) (b : ℕ) (values : List ℕ) (above group : ℕ)
    → group_size digit ≤ length values → All (λ v. v < base_of digit * 2 ^ b) values
    → length values * b + digit_bits digit (length values) ≤ 128 → above
    ≡ values_written digit b
    (take (length values - group_size digit) (drop (group_size digit) values)) → group
    ≡ group_written digit b values → above * 2 ^ group_bits digit b % 2 ^ 128 + group
    ≡ values_written digit b values
written_step digit b values above group long all inside rest first =
    rw (written_above digit b values above long all inside rest, first)
    (sym (values_written-more digit b values long))

pub written_fits : (digit : Digit) (b : ℕ) (values : List ℕ)
    → All (λ v. v < base_of digit * 2 ^ b) values → length values * b + digit_bits digit
    (length values) ≤ 128 → values_written digit b values < 2 ^ 128
written_fits digit b values all inside =
    let power : 2 ^ (length values * b + digit_bits digit (length values)) ≤ 2 ^ 128 =
    pow-le-pow_right {n = 2} (omega arith) inside in
    omega (arith, values_written-lt digit b values (by_index digit b values all), power)

pub written_last : (digit : Digit) (b : ℕ) (values : List ℕ) (group : ℕ)
    → length values ≤ group_size digit → All (λ v. v < base_of digit * 2 ^ b) values → group
    ≡ group_written digit b values → group ≡ values_written digit b values
written_last digit b values group short all first = first
    ∙ sym (values_written-last digit b values short (by_index digit b values all))

-- ---- a group from its fields

pub digit_small : (digit : Digit) (b i : ℕ) (values : List ℕ) (v : ℕ)
    → All (λ v. v < base_of digit * 2 ^ b) values → v ≡ get_or values i 0
    → v / 2 ^ b < base_of digit
digit_small digit b i values v all same =
    rw same (div_below (get_or values i 0) (2 ^ b) (base_of digit) (pow_pos b)
    (by_index digit b values all i))

pub five_fields : (b t : ℕ) (values : List ℕ) (z0 z1 z2 z3 z4 z5 z6 z7 z8 : ℕ) → z8
    ≡ bit_at t 7 * 2 ^ b + low_at b values 4 → z7 ≡ z8 * 2 ^ 2 + slice t 6 5 → z6
    ≡ z7 * 2 ^ b + low_at b values 3 → z5 ≡ z6 * 2 ^ 1 + bit_at t 4 → z4
    ≡ z5 * 2 ^ b + low_at b values 2 → z3 ≡ z4 * 2 ^ 2 + slice t 3 2 → z2
    ≡ z3 * 2 ^ b + low_at b values 1 → z1 ≡ z2 * 2 ^ 2 + slice t 1 0 → z0
    ≡ z1 * 2 ^ b + low_at b values 0 → z0 ≡ trits_packed b t values
unfolding trits_packed packed
five_fields b t values z0 z1 z2 z3 z4 z5 z6 z7 z8 e8 e7 e6 e5 e4 e3 e2 e1 e0 =
    rw (e0, e1, e2, e3, e4, e5, e6, e7, e8) (simp zero-add)

pub three_fields : (b q : ℕ) (values : List ℕ) (z0 z1 z2 z3 z4 : ℕ) → z4
    ≡ slice q 6 5 * 2 ^ b + low_at b values 2 → z3 ≡ z4 * 2 ^ 2 + slice q 4 3 → z2
    ≡ z3 * 2 ^ b + low_at b values 1 → z1 ≡ z2 * 2 ^ 3 + slice q 2 0 → z0
    ≡ z1 * 2 ^ b + low_at b values 0 → z0 ≡ quints_packed b q values
unfolding quints_packed packed
three_fields b q values z0 z1 z2 z3 z4 e4 e3 e2 e1 e0 = rw (e0, e1, e2, e3, e4) (simp zero-add)

-- ---- the sequence of a level

pub written_is : (digit : Digit) (b : ℕ) (level : Level) (values : List ℕ) (result : ℕ) → digit
    ≡ digit_of level → b ≡ low_bits_of level → result ≡ values_written digit b values → result
    ≡ written_sequence level values
written_is digit b level values result d l written =
    written ∙ ap (λ x. values_written x b values) d
    ∙ ap (λ x. values_written (digit_of level) x values) l

pub written_reads : (level : Level) (values : List ℕ) (result : ℕ)
    → All (λ v. v < count_of level) values → result ≡ written_sequence level values
    → sequence result level (length values) ≡ values
written_reads level values result all written = ap (λ z. sequence z level (length values)) written
    ∙ sequence-written level values all

pub written_small : (level : Level) (values : List ℕ) (result : ℕ)
    → All (λ v. v < count_of level) values → result ≡ written_sequence level values
    → result < 2 ^ sequence_bits level (length values)
written_small level values result all written = rw written (written_sequence-lt level values all)

-- ---- integers without digits

pub bits_none : (b : ℕ) (values : List ℕ) → length values < 1 → 0 ≡ values_written Bits b values
unfolding values_written groups_written
bits_none b [] none = refl
bits_none b (v ∷ vs) none = absurd (omega arith)

pub bits_first : (b : ℕ) (values : List ℕ) (v : ℕ) → All (λ v. v < 1 * 2 ^ b) values → v
    ≡ get_or values 0 0 → v ≡ group_written Bits b values
unfolding group_written
bits_first b values v all same =
    let under : get_or values 0 0 < 1 * 2 ^ b = by_index Bits b values all 0 in
    let small : get_or values 0 0 < 2 ^ b = omega arith in
    same ∙ sym (mod-eq_of_lt small)

abbrev BitsFit : ℕ → List ℕ → Type 0
BitsFit b values = All (λ v. v < 1 * 2 ^ b) values × (length values * b + 0 ≤ 128)

fits_from : (b : ℕ) (values : List ℕ) (p : ℕ) → BitsFit b values → BitsFit b (drop p values)
fits_from b values p fit =
    let shorter : length (drop p values) ≤ length values = omega (arith, length-drop p values) in (
      All-drop (λ v. v < 1 * 2 ^ b) p values fit.0,
      omega (
        arith,
        fit.1,
        mul-le (length (drop p values)) b (length values) b shorter
            (omega arith),
      ),
    )

bits_above : (b : ℕ) (values : List ℕ) (v : ℕ) (rest : List ℕ) (written : ℕ) → values ≡ v ∷ rest
    → BitsFit b values → written ≡ values_written Bits b rest → written * 2 ^ b % 2 ^ 128 + v
    ≡ values_written Bits b values
bits_above b values v rest written same fit before =
    let of_values = rw same at fit in
    let first = bits_first b (v ∷ rest) v of_values.0 refl in
    rw same
    (written_step Bits b (v ∷ rest) written v (omega arith) of_values.0 of_values.1
    (before ∙ sym (ap (values_written Bits b) (rest_is 1 (v ∷ rest)))) first)

-- a step that adds one integer, from the last to the first
pub bits_more : (b : ℕ) (values : List ℕ) (place written v : ℕ) → 0 < place → place ≤ length values
    → All (λ v. v < 1 * 2 ^ b) values → length values * b + 0 ≤ 128 → written
    ≡ values_written Bits b (drop place values) → v ≡ get_or values (place - 1) 0
    → written * 2 ^ b % 2 ^ 128 + v ≡ values_written Bits b (drop (place - 1) values)
bits_more b values zero written v some within all inside before same = absurd (omega arith)
bits_more b values (suc p) written v some within all inside before same =
    let less : suc p - 1 ≡ p = omega arith in
    let value : v ≡ get_or values p 0 = same ∙ ap (λ i. get_or values i 0) less in
    let split : drop p values ≡ get_or values p 0 ∷ drop (suc p) values =
    drop-cons values p 0 (omega arith) in
    rw (less, value) (bits_above b (drop p values) (get_or values p 0)
    (drop (suc p) values) written split (fits_from b values p (all, inside)) before)

pub bits_fit : (b : ℕ) (values : List ℕ) (p : ℕ) → All (λ v. v < 1 * 2 ^ b) values
    → length values * b + 0 ≤ 128 → values_written Bits b (drop p values) < 2 ^ 128
bits_fit b values p all inside =
    let fit : BitsFit b (drop p values) = fits_from b values p (all, inside) in
    written_fits Bits b (drop p values) fit.0 fit.1

pub bits_end : (b : ℕ) (values : List ℕ) → 0 ≡ values_written Bits b (drop (length values) values)
bits_end b values = bits_none b (drop (length values) values)
    (omega (arith, length-drop (length values) values))
