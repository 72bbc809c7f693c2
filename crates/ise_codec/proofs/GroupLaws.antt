-- Laws of one group of an integer sequence: its decoding and its encoding.
use Rattle.std.proofs.Common.{◌≡◌, ℕ, zero, suc, ◌+◌, ◌*◌, ◌/◌, ◌%◌, ◌^◌, ◌<◌, ◌≤◌, List, [], ◌∷◌, length, get_or, take, drop, refl, sym, ◌∙◌, ap, arith, zero-add}
use Rattle.std.specs.Int.{bit_at}
use Rattle.std.specs.List.{All}
use Rattle.std.proofs.lemmas.Nat.{pow_pos, pow-add, mod_below, mul-add-lt, div_below, shr_split}
use Rattle.std.proofs.lemmas.List.Elements.{All-cons, All-nil}
use Rattle.std.proofs.Math.Nat.{div-one, zero-div, zero-mod, mod-eq_of_lt}
use Rattle.astc_model.specs.declared.level.Digit.{Digit}
use Rattle.astc_model.specs.declared.level.Digit.TheVariants.{Bits, Trit, Quint}
use Rattle.astc_model.specs.Bits.{field_of}
use Rattle.astc_model.specs.Levels.{base_of, digit_bits}
use Rattle.astc_model.specs.Packing.{packed, total_width, AllFit}
use Rattle.astc_model.specs.Sequences.{slice, trits, quints, trit_bits, quint_bits, value_of, trit_group, quint_group, group_size, group_bits, group_values, least_trits, least_quints, digit_at, low_at, trits_packed, quints_packed, group_written}
use Rattle.astc_model.proofs.BitLaws.{field_of-is, field_of-lt, field_of-field_of}
use Rattle.astc_model.proofs.PackingLaws.{packed-lt, field_of-packed}
use Rattle.ise_codec.proofs.DigitLaws.{trits-lt, quints-lt, trits-least_trits, least_trits-lt, quints-least_quints, least_quints-lt, least_trits-none, least_trits-one, least_trits-two, least_trits-three, least_trits-four, least_quints-none, least_quints-one, least_quints-two}

-- ---- decoding

-- a field that ends at bit m or below depends on the low m bits only
pub field_of-low : (z m k n : ℕ) → k + n ≤ m → field_of (z % 2 ^ m) k n ≡ field_of z k n
field_of-low z m k n within =
    let whole : field_of z 0 m ≡ z % 2 ^ m = field_of-is z 0 m ∙ ap (λ x. x % 2 ^ m) (div-one z) in
    ap (λ x. field_of x k n) (sym whole) ∙ field_of-field_of z 0 m k n within
    ∙ ap (λ j. field_of z j n) (zero-add k)

-- the integers of a group depend on the bits of the group only
pub group_values-low : (digit : Digit) (b m z : ℕ) → group_bits digit b ≤ m
    → group_values digit b (z % 2 ^ m) ≡ group_values digit b z
unfolding trit_group quint_group
group_values-low Bits b m z within = ap (λ x. x ∷ []) (field_of-low z m 0 b (omega arith))
group_values-low Trit b m z within =
    let m0 = field_of-low z m 0 b (omega arith) in
    let m1 = field_of-low z m (b + 2) b (omega arith) in
    let m2 = field_of-low z m (2 * b + 4) b (omega arith) in
    let m3 = field_of-low z m (3 * b + 5) b (omega arith) in
    let m4 = field_of-low z m (4 * b + 7) b (omega arith) in
    let t0 = field_of-low z m b 2 (omega arith) in
    let t2 = field_of-low z m (2 * b + 2) 2 (omega arith) in
    let t4 = field_of-low z m (3 * b + 4) 1 (omega arith) in
    let t5 = field_of-low z m (4 * b + 5) 2 (omega arith) in
    let t7 = field_of-low z m (5 * b + 7) 1 (omega arith) in
    simp (m0, m1, m2, m3, m4, t0, t2, t4, t5, t7)
group_values-low Quint b m z within =
    let m0 = field_of-low z m 0 b (omega arith) in
    let m1 = field_of-low z m (b + 3) b (omega arith) in
    let m2 = field_of-low z m (2 * b + 5) b (omega arith) in
    let q0 = field_of-low z m b 3 (omega arith) in
    let q3 = field_of-low z m (2 * b + 3) 2 (omega arith) in
    let q5 = field_of-low z m (3 * b + 5) 2 (omega arith) in
    simp (m0, m1, m2, q0, q3, q5)

pub length-group_values : (digit : Digit) (b z : ℕ) → length (group_values digit b z)
    ≡ group_size digit
unfolding trit_group quint_group
length-group_values Bits b z = refl
length-group_values Trit b z = refl
length-group_values Quint b z = refl

pub trit_bits-lt : (b z : ℕ) → trit_bits b z < 256
trit_bits-lt b z =
    omega (
      arith,
      field_of-lt z b 2,
      field_of-lt z (2 * b + 2) 2,
      field_of-lt z
          (3 * b + 4) 1,
      field_of-lt z (4 * b + 5) 2,
      field_of-lt z (5 * b + 7) 1,
    )

pub quint_bits-lt : (b z : ℕ) → quint_bits b z < 128
quint_bits-lt b z = omega (
  arith,
  field_of-lt z b 3,
  field_of-lt z (2 * b + 3) 2,
  field_of-lt z
      (3 * b + 5) 2,
)

-- a digit below its base and low bits give an integer below the count of the level
digit_lt : (base b digit low : ℕ) → digit < base → low < 2 ^ b → digit * 2 ^ b + low < base * 2 ^ b
digit_lt base b digit low d l = omega (arith, mul-add-lt digit (2 ^ b) low base d l)

pub trit_value-lt : (b z i k : ℕ) → i < 5 → value_of b (trits (trit_bits b z)) i
    (field_of z k b) < 3 * 2 ^ b
trit_value-lt b z i k within =
    digit_lt 3 b (get_or (trits (trit_bits b z)) i 0) (field_of z k b)
    (trits-lt (trit_bits b z) i (trit_bits-lt b z) within) (field_of-lt z k b)

pub quint_value-lt : (b z i k : ℕ) → i < 3 → value_of b (quints (quint_bits b z)) i
    (field_of z k b) < 5 * 2 ^ b
quint_value-lt b z i k within =
    digit_lt 5 b (get_or (quints (quint_bits b z)) i 0) (field_of z k b)
    (quints-lt (quint_bits b z) i (quint_bits-lt b z) within) (field_of-lt z k b)

all_three : (m a b c : ℕ) → a < m → b < m → c < m → All (λ v. v < m) (a ∷ b ∷ c ∷ [])
all_three m a b c la lb lc =
    All-cons (λ v. v < m) a (b ∷ c ∷ []) la
    (All-cons (λ v. v < m) b (c ∷ []) lb (All-cons (λ v. v < m) c [] lc (All-nil (λ v. v < m))))

all_five : (m a b c d e : ℕ) → a < m → b < m → c < m → d < m → e < m
    → All (λ v. v < m) (a ∷ b ∷ c ∷ d ∷ e ∷ [])
all_five m a b c d e la lb lc ld le =
    All-cons (λ v. v < m) a (b ∷ c ∷ d ∷ e ∷ []) la
    (All-cons (λ v. v < m) b (c ∷ d ∷ e ∷ []) lb (all_three m c d e lc ld le))

-- each integer of a group is below the count of the level
pub group_values-lt : (digit : Digit) (b z : ℕ) → All (λ v. v < base_of digit * 2 ^ b)
    (group_values digit b z)
unfolding trit_group quint_group
group_values-lt Bits b z =
    All-cons (λ v. v < 1 * 2 ^ b) (field_of z 0 b) [] (omega (arith, field_of-lt z 0 b))
    (All-nil (λ v. v < 1 * 2 ^ b))
group_values-lt Trit b z =
    let t : ℕ = trit_bits b z in
    all_five (3 * 2 ^ b) (value_of b (trits t) 0 (field_of z 0 b))
    (value_of b (trits t) 1 (field_of z (b + 2) b))
    (value_of b (trits t) 2 (field_of z (2 * b + 4) b))
    (value_of b (trits t) 3 (field_of z (3 * b + 5) b))
    (value_of b (trits t) 4 (field_of z (4 * b + 7) b))
    (trit_value-lt b z 0 0 (omega arith))
    (trit_value-lt b z 1 (b + 2) (omega arith))
    (trit_value-lt b z 2 (2 * b + 4) (omega arith))
    (trit_value-lt b z 3 (3 * b + 5) (omega arith))
    (trit_value-lt b z 4 (4 * b + 7) (omega arith))
group_values-lt Quint b z =
    let q : ℕ = quint_bits b z in
    all_three (5 * 2 ^ b) (value_of b (quints q) 0 (field_of z 0 b))
    (value_of b (quints q) 1 (field_of z (b + 3) b))
    (value_of b (quints q) 2 (field_of z (2 * b + 5) b))
    (quint_value-lt b z 0 0 (omega arith))
    (quint_value-lt b z 1 (b + 3) (omega arith))
    (quint_value-lt b z 2 (2 * b + 5) (omega arith))

-- ---- encoding

-- each integer, and the 0 for those past the end, is below m
abbrev pub AllUnder : ℕ → List ℕ → Type 0
AllUnder m values = (i : ℕ) → get_or values i 0 < m

-- the integers that a group decodes to: the given ones, and 0 for each missing one
abbrev pub filled : Digit → List ℕ → List ℕ
filled Bits values = get_or values 0 0 ∷ []
filled Trit values = get_or values 0 0 ∷ get_or values 1 0 ∷ get_or values 2 0 ∷ get_or values 3 0
    ∷ get_or values 4 0 ∷ []
filled Quint values = get_or values 0 0 ∷ get_or values 1 0 ∷ get_or values 2 0 ∷ []

digit_at-lt : (base b : ℕ) (values : List ℕ) (i : ℕ) → AllUnder (base * 2 ^ b) values
    → digit_at b values i < base
digit_at-lt base b values i under = div_below (get_or values i 0) (2 ^ b) base (pow_pos b) (under i)

low_at-lt : (b : ℕ) (values : List ℕ) (i : ℕ) → low_at b values i < 2 ^ b
low_at-lt b values i = mod_below (get_or values i 0) (2 ^ b) (pow_pos b)

-- a field at an equal position has the same value
moved : (z k k' n v : ℕ) → k ≡ k' → field_of z k n ≡ v → field_of z k' n ≡ v
moved z k k' n v same e = ap (λ j. field_of z j n) (sym same) ∙ e

abbrev trit_widths : ℕ → List ℕ
trit_widths b = b ∷ 2 ∷ b ∷ 2 ∷ b ∷ 1 ∷ b ∷ 2 ∷ b ∷ 1 ∷ []

abbrev trit_fields : ℕ → ℕ → List ℕ → List ℕ
trit_fields b t values =
    low_at b values 0 ∷ slice t 1 0 ∷ low_at b values 1 ∷ slice t 3 2 ∷ low_at b values 2
    ∷ bit_at t 4 ∷ low_at b values 3 ∷ slice t 6 5 ∷ low_at b values 4 ∷ bit_at t 7 ∷ []

trit_fields-fit : (b t : ℕ) (values : List ℕ) → AllFit (trit_widths b) (trit_fields b t values)
trit_fields-fit b t values = (
  low_at-lt b values 0,
  (
    omega arith,
    (
      low_at-lt b values 1,
      (
        omega arith,
        (
          low_at-lt b values 2,
          (
            omega arith,
            (
              low_at-lt b values 3,
              (
                omega arith,
                (low_at-lt b values 4, (omega arith, tt)),
              ),
            ),
          ),
        ),
      ),
    ),
  ),
)

abbrev quint_widths : ℕ → List ℕ
quint_widths b = b ∷ 3 ∷ b ∷ 2 ∷ b ∷ 2 ∷ []

abbrev quint_fields : ℕ → ℕ → List ℕ → List ℕ
quint_fields b q values =
    low_at b values 0 ∷ slice q 2 0 ∷ low_at b values 1 ∷ slice q 4 3 ∷ low_at b values 2
    ∷ slice q 6 5 ∷ []

quint_fields-fit : (b q : ℕ) (values : List ℕ) → AllFit (quint_widths b) (quint_fields b q values)
quint_fields-fit b q values = (
  low_at-lt b values 0,
  (
    omega arith,
    (low_at-lt b values 1, (omega arith, (low_at-lt b values 2, (omega arith, tt)))),
  ),
)

-- the bits T of an encoded group
trit_bits-packed : (b t : ℕ) (values : List ℕ) → t < 256 → trit_bits b (trits_packed b t values) ≡ t
unfolding trits_packed
trit_bits-packed b t values lt =
    let ws : List ℕ = trit_widths b in
    let vs : List ℕ = trit_fields b t values in
    let z : ℕ = packed ws vs in
    let fit : AllFit ws vs = trit_fields-fit b t values in
    let t0 : field_of z b 2 ≡ slice t 1 0 = moved z (b + 0) b 2 (slice t 1 0) (omega arith)
    (field_of-packed ws vs 1 fit (omega arith)) in
    let t2 : field_of z (2 * b + 2) 2 ≡ slice t 3 2 =
    moved z (b + (2 + (b + 0))) (2 * b + 2) 2 (slice t 3 2) (omega arith)
    (field_of-packed ws vs 3 fit (omega arith))
    in
    let t4 : field_of z (3 * b + 4) 1 ≡ bit_at t 4 =
    moved z (b + (2 + (b + (2 + (b + 0))))) (3 * b + 4) 1 (bit_at t 4) (omega arith)
    (field_of-packed ws vs 5 fit (omega arith))
    in
    let t5 : field_of z (4 * b + 5) 2 ≡ slice t 6 5 =
    moved z (b + (2 + (b + (2 + (b + (1 + (b + 0))))))) (4 * b + 5) 2 (slice t 6 5) (omega arith)
    (field_of-packed ws vs 7 fit (omega arith))
    in
    let t7 : field_of z (5 * b + 7) 1 ≡ bit_at t 7 =
    moved z (b + (2 + (b + (2 + (b + (1 + (b + (2 + (b + 0))))))))) (5 * b + 7) 1 (bit_at t 7)
    (omega arith) (field_of-packed ws vs 9 fit (omega arith))
    in
    omega (arith, t0, t2, t4, t5, t7)

-- the bits Q of an encoded group
quint_bits-packed : (b q : ℕ) (values : List ℕ) → q < 128 → quint_bits b (quints_packed b q values)
    ≡ q
unfolding quints_packed
quint_bits-packed b q values lt =
    let ws : List ℕ = quint_widths b in
    let vs : List ℕ = quint_fields b q values in
    let z : ℕ = packed ws vs in
    let fit : AllFit ws vs = quint_fields-fit b q values in
    let q0 : field_of z b 3 ≡ slice q 2 0 = moved z (b + 0) b 3 (slice q 2 0) (omega arith)
    (field_of-packed ws vs 1 fit (omega arith)) in
    let q3 : field_of z (2 * b + 3) 2 ≡ slice q 4 3 =
    moved z (b + (3 + (b + 0))) (2 * b + 3) 2 (slice q 4 3) (omega arith)
    (field_of-packed ws vs 3 fit (omega arith))
    in
    let q5 : field_of z (3 * b + 5) 2 ≡ slice q 6 5 =
    moved z (b + (3 + (b + (2 + (b + 0))))) (3 * b + 5) 2 (slice q 6 5) (omega arith)
    (field_of-packed ws vs 5 fit (omega arith))
    in
    omega (arith, q0, q3, q5)

list_three : {a b c a' b' c' : ℕ} → a ≡ a' → b ≡ b' → c ≡ c' → a ∷ b ∷ c ∷ [] ≡ a' ∷ b' ∷ c' ∷ []
list_three p q r = cc

list_five : {a b c d e a' b' c' d' e' : ℕ} → a ≡ a' → b ≡ b' → c ≡ c' → d ≡ d' → e ≡ e'
    → a ∷ b ∷ c ∷ d ∷ e ∷ [] ≡ a' ∷ b' ∷ c' ∷ d' ∷ e' ∷ []
list_five p q r s t = cc

-- an integer is its digit times 2 ^ b plus its low bits
whole_value : (b digit v low : ℕ) → digit ≡ v / 2 ^ b → low ≡ v % 2 ^ b → digit * 2 ^ b + low ≡ v
whole_value b digit v low d l = rw (d, l) (shr_split v b)

trit_group-packed : (b t : ℕ) (values : List ℕ) → t < 256 → trits t
    ≡ digit_at b values 0 ∷ digit_at b values 1 ∷ digit_at b values 2 ∷ digit_at b values 3
    ∷ digit_at b values 4 ∷ [] → trit_group b (trits_packed b t values) ≡ filled Trit values
unfolding trit_group trits_packed
trit_group-packed b t values lt digits =
    let ws : List ℕ = trit_widths b in
    let vs : List ℕ = trit_fields b t values in
    let z : ℕ = packed ws vs in
    let fit : AllFit ws vs = trit_fields-fit b t values in
    let read : trits (trit_bits b z) ≡ digit_at b values 0 ∷ digit_at b values 1
    ∷ digit_at b values 2 ∷ digit_at b values 3 ∷ digit_at b values 4 ∷ [] =
    ap trits (trit_bits-packed b t values lt) ∙ digits
    in
    let v0 = whole_value b (get_or (trits (trit_bits b z)) 0 0) (get_or values 0 0) (field_of z 0 b)
    (ap (λ xs. get_or xs 0 0) read) (field_of-packed ws vs 0 fit (omega arith)) in
    let v1 = whole_value b (get_or (trits (trit_bits b z)) 1 0) (get_or values 1 0)
    (field_of z (b + 2) b) (ap (λ xs. get_or xs 1 0) read)
    (moved z (b + (2 + 0)) (b + 2) b (low_at b values 1) (omega arith)
    (field_of-packed ws vs 2 fit (omega arith))) in
    let v2 = whole_value b (get_or (trits (trit_bits b z)) 2 0) (get_or values 2 0)
    (field_of z (2 * b + 4) b) (ap (λ xs. get_or xs 2 0) read)
    (moved z (b + (2 + (b + (2 + 0)))) (2 * b + 4) b (low_at b values 2) (omega arith)
    (field_of-packed ws vs 4 fit (omega arith))) in
    let v3 = whole_value b (get_or (trits (trit_bits b z)) 3 0) (get_or values 3 0)
    (field_of z (3 * b + 5) b) (ap (λ xs. get_or xs 3 0) read)
    (moved z (b + (2 + (b + (2 + (b + (1 + 0)))))) (3 * b + 5) b (low_at b values 3) (omega arith)
    (field_of-packed ws vs 6 fit (omega arith))) in
    let v4 = whole_value b (get_or (trits (trit_bits b z)) 4 0) (get_or values 4 0)
    (field_of z (4 * b + 7) b) (ap (λ xs. get_or xs 4 0) read)
    (moved z (b + (2 + (b + (2 + (b + (1 + (b + (2 + 0)))))))) (4 * b + 7) b (low_at b values 4)
    (omega arith) (field_of-packed ws vs 8 fit (omega arith))) in
    list_five v0 v1 v2 v3 v4

quint_group-packed : (b q : ℕ) (values : List ℕ) → q < 128 → quints q
    ≡ digit_at b values 0 ∷ digit_at b values 1 ∷ digit_at b values 2 ∷ []
    → quint_group b (quints_packed b q values) ≡ filled Quint values
unfolding quint_group quints_packed
quint_group-packed b q values lt digits =
    let ws : List ℕ = quint_widths b in
    let vs : List ℕ = quint_fields b q values in
    let z : ℕ = packed ws vs in
    let fit : AllFit ws vs = quint_fields-fit b q values in
    let read : quints (quint_bits b z) ≡ digit_at b values 0 ∷ digit_at b values 1
    ∷ digit_at b values 2 ∷ [] =
    ap quints (quint_bits-packed b q values lt) ∙ digits
    in
    let v0 = whole_value b (get_or (quints (quint_bits b z)) 0 0) (get_or values 0 0)
    (field_of z 0 b) (ap (λ xs. get_or xs 0 0) read)
    (field_of-packed ws vs 0 fit (omega arith)) in
    let v1 = whole_value b (get_or (quints (quint_bits b z)) 1 0) (get_or values 1 0)
    (field_of z (b + 3) b) (ap (λ xs. get_or xs 1 0) read)
    (moved z (b + (3 + 0)) (b + 3) b (low_at b values 1) (omega arith)
    (field_of-packed ws vs 2 fit (omega arith))) in
    let v2 = whole_value b (get_or (quints (quint_bits b z)) 2 0) (get_or values 2 0)
    (field_of z (2 * b + 5) b) (ap (λ xs. get_or xs 2 0) read)
    (moved z (b + (3 + (b + (2 + 0)))) (2 * b + 5) b (low_at b values 2) (omega arith)
    (field_of-packed ws vs 4 fit (omega arith))) in
    list_three v0 v1 v2

-- an encoded group is decoded to its integers
pub group_values-written : (digit : Digit) (b : ℕ) (values : List ℕ)
    → AllUnder (base_of digit * 2 ^ b) values → group_values digit b (group_written digit b values)
    ≡ filled digit values
unfolding group_written
group_values-written Bits b values under =
    let v : ℕ = get_or values 0 0 in
    let lt : v < 2 ^ b = omega (arith, under 0) in
    let low : v % 2 ^ b ≡ v = mod-eq_of_lt lt in
    ap (λ x. x ∷ []) (field_of-is (v % 2 ^ b) 0 b ∙ ap (λ x. x % 2 ^ b) (div-one (v % 2 ^ b) ∙ low)
    ∙ low)
group_values-written Trit b values under =
    trit_group-packed b (least_trits
    (digit_at b values 0 ∷ digit_at b values 1 ∷ digit_at b values 2 ∷ digit_at b values 3
    ∷ digit_at b values 4 ∷ [])) values
    (least_trits-lt (digit_at b values 0) (digit_at b values 1) (digit_at b values 2)
    (digit_at b values 3) (digit_at b values 4) (digit_at-lt 3 b values 0 under)
    (digit_at-lt 3 b values 1 under) (digit_at-lt 3 b values 2 under)
    (digit_at-lt 3 b values 3 under) (digit_at-lt 3 b values 4 under))
    (trits-least_trits (digit_at b values 0) (digit_at b values 1) (digit_at b values 2)
    (digit_at b values 3) (digit_at b values 4) (digit_at-lt 3 b values 0 under)
    (digit_at-lt 3 b values 1 under) (digit_at-lt 3 b values 2 under)
    (digit_at-lt 3 b values 3 under) (digit_at-lt 3 b values 4 under))
group_values-written Quint b values under =
    quint_group-packed b (least_quints
    (digit_at b values 0 ∷ digit_at b values 1 ∷ digit_at b values 2 ∷ [])) values
    (least_quints-lt (digit_at b values 0) (digit_at b values 1) (digit_at b values 2)
    (digit_at-lt 5 b values 0 under) (digit_at-lt 5 b values 1 under)
    (digit_at-lt 5 b values 2 under))
    (quints-least_quints (digit_at b values 0) (digit_at b values 1) (digit_at b values 2)
    (digit_at-lt 5 b values 0 under) (digit_at-lt 5 b values 1 under)
    (digit_at-lt 5 b values 2 under))

-- a number below a power of two is below an equal power
to_power : (z m m' : ℕ) → z < 2 ^ m → m ≡ m' → z < 2 ^ m'
to_power z m m' lt same = rw (← same) lt

pub group_written-lt : (digit : Digit) (b : ℕ) (values : List ℕ)
    → group_written digit b values < 2 ^ group_bits digit b
unfolding group_written trits_packed quints_packed
group_written-lt Bits b values = low_at-lt b values 0
group_written-lt Trit b values =
    let t : ℕ = least_trits (digit_at b values 0 ∷ digit_at b values 1 ∷ digit_at b values 2
    ∷ digit_at b values 3 ∷ digit_at b values 4 ∷ []) in
    to_power (packed (trit_widths b) (trit_fields b t values)) (total_width (trit_widths b))
    (5 * b + 8) (packed-lt (trit_widths b) (trit_fields b t values)
    (trit_fields-fit b t values)) (omega arith)
group_written-lt Quint b values =
    let q : ℕ = least_quints (digit_at b values 0 ∷ digit_at b values 1 ∷ digit_at b values 2
    ∷ []) in
    to_power (packed (quint_widths b) (quint_fields b q values)) (total_width (quint_widths b))
    (3 * b + 7) (packed-lt (quint_widths b) (quint_fields b q values)
    (quint_fields-fit b q values)) (omega arith)

-- ---- incomplete groups: missing integers take no bits

abbrev AllZero : List ℕ → Type 0
AllZero [] = Unit {0}
AllZero (v ∷ vs) = (v ≡ 0) × AllZero vs

packed-zero : (ws vs : List ℕ) → AllZero vs → packed ws vs ≡ 0
unfolding packed
packed-zero [] vs zeros = refl
packed-zero (w ∷ ws) [] zeros = refl
packed-zero (w ∷ ws) (v ∷ vs) zeros =
    let rest : packed ws vs ≡ 0 = packed-zero ws vs zeros.1 in
    let first : v ≡ 0 = zeros.0 in
    rw (rest, first) (omega arith)

-- if all fields from index j on are 0, the packed number fits the widths of the first j fields
packed-cut : (j : ℕ) (ws vs : List ℕ) → AllFit ws vs → AllZero (drop j vs)
    → packed ws vs < 2 ^ total_width (take j ws)
unfolding packed
packed-cut zero ws vs fit zeros = rw (packed-zero ws vs zeros) (omega arith)
packed-cut (suc j) [] vs fit zeros = omega arith
packed-cut (suc j) (w ∷ ws) [] fit zeros = elim fit [ ]
packed-cut (suc j) (w ∷ ws) (v ∷ vs) fit zeros =
    rw (pow-add 2 w (total_width (take j ws)))
    (mul-add-lt (packed ws vs) (2 ^ w) v (2 ^ total_width (take j ws))
    (packed-cut j ws vs fit.1 zeros) fit.0)

abbrev trits_byte : ℕ → List ℕ → ℕ
trits_byte b values = least_trits (digit_at b values 0 ∷ digit_at b values 1 ∷ digit_at b values 2
    ∷ digit_at b values 3 ∷ digit_at b values 4 ∷ [])

abbrev quints_seven : ℕ → List ℕ → ℕ
quints_seven b values =
    least_quints (digit_at b values 0 ∷ digit_at b values 1 ∷ digit_at b values 2 ∷ [])

trits_cut : (j b m : ℕ) (values : List ℕ)
    → AllZero (drop j (trit_fields b (trits_byte b values) values))
    → total_width (take j (trit_widths b)) ≡ m → group_written Trit b values < 2 ^ m
unfolding group_written trits_packed
trits_cut j b m values zeros same =
    to_power (packed (trit_widths b) (trit_fields b (trits_byte b values) values))
    (total_width (take j (trit_widths b))) m
    (packed-cut j (trit_widths b) (trit_fields b (trits_byte b values) values)
    (trit_fields-fit b (trits_byte b values) values) zeros) same

quints_cut : (j b m : ℕ) (values : List ℕ)
    → AllZero (drop j (quint_fields b (quints_seven b values) values))
    → total_width (take j (quint_widths b)) ≡ m → group_written Quint b values < 2 ^ m
unfolding group_written quints_packed
quints_cut j b m values zeros same =
    to_power (packed (quint_widths b) (quint_fields b (quints_seven b values) values))
    (total_width (take j (quint_widths b))) m
    (packed-cut j (quint_widths b) (quint_fields b (quints_seven b values) values)
    (quint_fields-fit b (quints_seven b values) values) zeros) same

trits_lt : {m : ℕ} (b : ℕ) (values : List ℕ) (ds : List ℕ)
    → digit_at b values 0 ∷ digit_at b values 1 ∷ digit_at b values 2 ∷ digit_at b values 3
    ∷ digit_at b values 4 ∷ [] ≡ ds → least_trits ds < m → trits_byte b values < m
trits_lt b values ds same lt = rw same lt

group_trits-cut : (b : ℕ) (values : List ℕ) → length values ≤ 5 → AllUnder (3 * 2 ^ b) values
    → group_written Trit b values < 2 ^ (length values * b + digit_bits Trit (length values))
group_trits-cut b [] short under =
    let q : 0 / 2 ^ b ≡ 0 = zero-div (2 ^ b) in
    let r : 0 % 2 ^ b ≡ 0 = zero-mod (2 ^ b) in
    let t : trits_byte b [] < 1 = rw q (omega (arith, least_trits-none)) in
    trits_cut 0 b (0 * b + 0) [] (
      r,
      (
        omega arith,
        (
          r,
          (
            omega arith,
            (r, (omega arith, (r, (omega arith, (r, (omega arith, tt)))))),
          ),
        ),
      ),
    ) (omega arith)
group_trits-cut b (v ∷ []) short under =
    let q : 0 / 2 ^ b ≡ 0 = zero-div (2 ^ b) in
    let r : 0 % 2 ^ b ≡ 0 = zero-mod (2 ^ b) in
    let a : v / 2 ^ b < 3 = digit_at-lt 3 b (v ∷ []) 0 under in
    let t : trits_byte b (v ∷ []) < 4 = trits_lt b (v ∷ []) (v / 2 ^ b ∷ 0 ∷ 0 ∷ 0 ∷ 0 ∷ [])
    (list_five refl q q q q) (least_trits-one (v / 2 ^ b) a) in
    trits_cut 2 b (1 * b + 2) (v ∷ [])
    (r, (omega arith, (r, (omega arith, (r, (omega arith, (r, (omega arith, tt))))))))
    (omega arith)
group_trits-cut b (v ∷ w ∷ []) short under =
    let q : 0 / 2 ^ b ≡ 0 = zero-div (2 ^ b) in
    let r : 0 % 2 ^ b ≡ 0 = zero-mod (2 ^ b) in
    let values : List ℕ = v ∷ w ∷ [] in
    let t : trits_byte b values < 16 = trits_lt b values (v / 2 ^ b ∷ w / 2 ^ b ∷ 0 ∷ 0 ∷ 0 ∷ [])
    (list_five refl refl q q q)
    (least_trits-two (v / 2 ^ b) (w / 2 ^ b) (digit_at-lt 3 b values 0 under)
    (digit_at-lt 3 b values 1 under)) in
    trits_cut 4 b (2 * b + 4) values (r, (omega arith, (r, (omega arith, (r, (omega arith, tt))))))
    (omega arith)
group_trits-cut b (v ∷ w ∷ x ∷ []) short under =
    let q : 0 / 2 ^ b ≡ 0 = zero-div (2 ^ b) in
    let r : 0 % 2 ^ b ≡ 0 = zero-mod (2 ^ b) in
    let values : List ℕ = v ∷ w ∷ x ∷ [] in
    let t : trits_byte b values < 32 =
    trits_lt b values (v / 2 ^ b ∷ w / 2 ^ b ∷ x / 2 ^ b ∷ 0 ∷ 0 ∷ [])
    (list_five refl refl refl q q)
    (least_trits-three (v / 2 ^ b) (w / 2 ^ b) (x / 2 ^ b) (digit_at-lt 3 b values 0 under)
    (digit_at-lt 3 b values 1 under) (digit_at-lt 3 b values 2 under)) in
    trits_cut 6 b (3 * b + 5) values (r, (omega arith, (r, (omega arith, tt)))) (omega arith)
group_trits-cut b (v ∷ w ∷ x ∷ y ∷ []) short under =
    let q : 0 / 2 ^ b ≡ 0 = zero-div (2 ^ b) in
    let r : 0 % 2 ^ b ≡ 0 = zero-mod (2 ^ b) in
    let values : List ℕ = v ∷ w ∷ x ∷ y ∷ [] in
    let t : trits_byte b values < 128 =
    trits_lt b values (v / 2 ^ b ∷ w / 2 ^ b ∷ x / 2 ^ b ∷ y / 2 ^ b ∷ 0 ∷ [])
    (list_five refl refl refl refl q)
    (least_trits-four (v / 2 ^ b) (w / 2 ^ b) (x / 2 ^ b) (y / 2 ^ b)
    (digit_at-lt 3 b values 0 under) (digit_at-lt 3 b values 1 under)
    (digit_at-lt 3 b values 2 under) (digit_at-lt 3 b values 3 under)) in
    trits_cut 8 b (4 * b + 7) values (r, (omega arith, tt)) (omega arith)
group_trits-cut b (v ∷ w ∷ x ∷ y ∷ z ∷ []) short under =
    group_written-lt Trit b (v ∷ w ∷ x ∷ y ∷ z ∷ [])
group_trits-cut b (v ∷ w ∷ x ∷ y ∷ z ∷ z' ∷ zs) short under = absurd (omega arith)

group_quints-cut : (b : ℕ) (values : List ℕ) → length values ≤ 3 → AllUnder (5 * 2 ^ b) values
    → group_written Quint b values < 2 ^ (length values * b + digit_bits Quint (length values))
group_quints-cut b [] short under =
    let q : 0 / 2 ^ b ≡ 0 = zero-div (2 ^ b) in
    let r : 0 % 2 ^ b ≡ 0 = zero-mod (2 ^ b) in
    let t : quints_seven b [] < 1 = rw q (omega (arith, least_quints-none)) in
    quints_cut 0 b (0 * b + 0) [] (r, (omega arith, (r, (omega arith, (r, (omega arith, tt))))))
    (omega arith)
group_quints-cut b (v ∷ []) short under =
    let q : 0 / 2 ^ b ≡ 0 = zero-div (2 ^ b) in
    let r : 0 % 2 ^ b ≡ 0 = zero-mod (2 ^ b) in
    let t : quints_seven b (v ∷ []) < 8 =
    rw q (least_quints-one (v / 2 ^ b) (digit_at-lt 5 b (v ∷ []) 0 under)) in
    quints_cut 2 b (1 * b + 3) (v ∷ []) (r, (omega arith, (r, (omega arith, tt)))) (omega arith)
group_quints-cut b (v ∷ w ∷ []) short under =
    let q : 0 / 2 ^ b ≡ 0 = zero-div (2 ^ b) in
    let r : 0 % 2 ^ b ≡ 0 = zero-mod (2 ^ b) in
    let values : List ℕ = v ∷ w ∷ [] in
    let t : quints_seven b values < 32 =
    rw q (least_quints-two (v / 2 ^ b) (w / 2 ^ b) (digit_at-lt 5 b values 0 under)
    (digit_at-lt 5 b values 1 under)) in
    quints_cut 4 b (2 * b + 5) values (r, (omega arith, tt)) (omega arith)
group_quints-cut b (v ∷ w ∷ x ∷ []) short under = group_written-lt Quint b (v ∷ w ∷ x ∷ [])
group_quints-cut b (v ∷ w ∷ x ∷ y ∷ ys) short under = absurd (omega arith)

-- the encoding of at most one group of integers takes no more bits than these integers need
pub group_written-cut : (digit : Digit) (b : ℕ) (values : List ℕ) → length values ≤ group_size digit
    → AllUnder (base_of digit * 2 ^ b) values → group_written digit b values < 2 ^
    (length values * b + digit_bits digit (length values))
unfolding group_written
group_written-cut Bits b [] short under = rw (zero-mod (2 ^ b)) (pow_pos (0 * b + 0))
group_written-cut Bits b (v ∷ []) short under = to_power (v % 2 ^ b) b (1 * b + 0)
    (low_at-lt b (v ∷ []) 0) (omega arith)
group_written-cut Bits b (v ∷ w ∷ vs) short under = absurd (omega arith)
group_written-cut Trit b values short under = group_trits-cut b values short under
group_written-cut Quint b values short under = group_quints-cut b values short under
